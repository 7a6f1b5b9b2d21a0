-- What a search yields, and a processor's own entry of a word, in the order in which a step looks for it.
use Rattle.std.specs.Prelude.{List, ℕ, ltb, Option, Some, None}
use Rattle.laws.specs.Choice.{pick}
use Rattle.entry.specs.Numbers.{NORMAL, TENTATIVE}
use Rattle.rules.specs.Own.{find_entry}
use Rattle.caches.specs.declared.Own.{Own}
use Rattle.caches.specs.declared.Own.TheVariants.{Tentative, Normal, Nowhere}

-- of n places the i-th; none where a search reached the end
abbrev pub below : ℕ → ℕ → Option ℕ
below n i = pick (ltb i n) (Some i) None

-- the first tentative one, else the first NORMAL one
unfoldable pub own_entry : List ℕ → ℕ → ℕ → ℕ → Own
own_entry es p n word =
    let i = find_entry es p n TENTATIVE word in
    let j = find_entry es p n NORMAL word in
    pick (ltb i n) (Tentative i) (pick (ltb j n) (Normal j) Nowhere)
