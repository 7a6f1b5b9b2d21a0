-- A buffer that is written from its front on.
use Rattle.std.specs.Prelude.{◌≡◌, ◌+◌, ◌≤◌, length}
use Rattle.text.specs.Writing.{Filled, filled}
use Rattle.listing.specs.declared.page.Page.{Page}
use Rattle.listing.specs.Lines.{most_line}

-- where it is written to, and what it holds
abbrev pub held : Page → Filled
held p = filled p.used p.bytes.now

-- a line surely fits
abbrev pub HasRoom : Page → Type 0
HasRoom p = p.used + most_line ≤ length p.bytes.now

-- the buffer that was lent is still the one that is written to
abbrev pub SameBuffer : Page → Page → Type 0
SameBuffer p q = p.bytes.ghost_name ≡ q.bytes.ghost_name
