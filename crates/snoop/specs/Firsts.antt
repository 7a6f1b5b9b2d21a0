-- Where another processor's first entry stands that takes part in a request.
use Rattle.std.specs.Prelude.{◌≡◌, List, ℕ, ◌<◌, ◌≤◌, eqb, get_or, Option, None}
use Rattle.laws.specs.Choice.{pick}
use Rattle.rules.specs.declared.Dims.{Dims}
use Rattle.rules.specs.Own.{live_entry}
use Rattle.caches.specs.Own.{below}

-- the first NORMAL or tentative one of the word among q's n entries; n where there is none, and for p itself
unfoldable pub first_of : ℕ → ℕ → ℕ → List ℕ → ℕ → ℕ
first_of n p word es q = pick (eqb q p) n (live_entry es q n word)

-- as a search yields it
abbrev pub first_found : ℕ → ℕ → ℕ → List ℕ → ℕ → Option ℕ
first_found n p word es q = below n (first_of n p word es q)

-- Of each of the first m processors this place is noted. More than 8 processors are never made; there one's places are another's too.
abbrev pub IsNoted : Dims → ℕ → ℕ → List (Option ℕ) → List ℕ → ℕ → Type 0
IsNoted d p word firsts es m =
    d.processors ≤ 8 → (q : ℕ) → q < m → get_or firsts q None ≡ first_found d.entries p word es q
