-- Below 8 processors have places of their own: what a turn does to q's entries leaves another's as they are. Assumes nothing.
use mathlib.Core.Path.{◌≡◌, refl, ◌∙◌, ap, sym}
use mathlib.Core.Logic.{◌≢◌}
use mathlib.Core.Bool.{Bool, true, false}
use mathlib.Core.List.{List}
use Prim.Native.Nat.{ℕ, zero, suc, ◌+◌, ◌%◌, ◌≤◌, ◌<◌}
use native.Mathlib.Omega.{arith}
use native.Mathlib.Decide.{ℕ_discrete}
use Rattle.std.specs.Prelude.{Option, None}
use lib.Dec.{eqb, ltb}
use lib.ListN.{length, get_or, set}
use lib.Seq.{get_or-set_same, get_or-set_other}
use Rattle.laws.specs.Choice.{pick}
use Rattle.laws.specs.Search.{first_from}
use Rattle.laws.specs.Places.{apply_other}
use Rattle.entry.specs.Numbers.{TENTATIVE}
use Rattle.entry.specs.Entry.{rolled_back}
use Rattle.rules.specs.declared.Dims.{Dims}
use Rattle.rules.specs.declared.Caches.{Caches}
use Rattle.rules.specs.State.{place, line_at}
use Rattle.rules.specs.Own.{holds, has_entry, has_live, find_entry, live_entry}
use Rattle.rules.specs.Rollback.{repacked, rolled_entries}
use Rattle.rules.specs.Snoop.{snoop_line, snoop_entry, snoop_one, opposes, other_opposes}
use Rattle.snoop.specs.Firsts.{first_of, first_found, IsNoted}

first_same : (f g : ℕ → Bool) → ((i : ℕ) → f i ≡ g i) → (i n : ℕ) → first_from f i n ≡ first_from g i n
unfolding first_from
first_same f g same i zero = refl
first_same f g same i (suc n) = rw (same i, first_same f g same (suc i) n)

pick_has : (P : Caches → Type 0) (b : Bool) (t s : Caches) → P t → P s → P (pick b t s)
pick_has P true t s h k = h
pick_has P false t s h k = k

pub line_entries : (i word cycle q : ℕ) (s : Caches) → (snoop_line i word cycle q s).entries ≡ s.entries
unfolding snoop_line
line_entries i word cycle q s = pick_has (λ t. t.entries ≡ s.entries) (holds (line_at s q i) word) _ s refl refl

-- k's entries are as they were, and what is found of them
abbrev pub Kept : ℕ → List ℕ → List ℕ → Type 0
Kept k es es' = (j : ℕ) → get_or es' (place k j) 0 ≡ get_or es (place k j) 0

module _ (k : ℕ) (es es' : List ℕ) (h : Kept k es es') where
  pub kept_live : (n word : ℕ) → live_entry es' k n word ≡ live_entry es k n word
  unfolding live_entry
  kept_live n word = first_same (has_live es' k word) (has_live es k word) (λ j. rw (h j)) 0 n

  kept_find : (n tag word : ℕ) → find_entry es' k n tag word ≡ find_entry es k n tag word
  unfolding find_entry
  kept_find n tag word = first_same (has_entry es' k tag word) (has_entry es k tag word) (λ j. rw (h j)) 0 n

  pub kept_first : (n p word : ℕ) → first_found n p word es' k ≡ first_found n p word es k
  unfolding first_of
  kept_first n p word = rw (kept_live n word)

  pub kept_opposes : (d : Dims) (p word cycle : ℕ) → other_opposes d p word cycle es' k ≡ other_opposes d p word cycle es k
  unfolding opposes
  kept_opposes d p word cycle = rw (kept_find d.entries TENTATIVE word, h (find_entry es k d.entries TENTATIVE word))

module _ (q k : ℕ) (hq : q < 8) (hk : k < 8) (ne : q ≢ k) where
  pub apart : (i j : ℕ) → place k j ≢ place q i
  apart i j e = ne (omega arith)

  pub rolled_kept : (es : List ℕ) (n : ℕ) → Kept k es (rolled_entries es q n)
  unfolding rolled_entries
  rolled_kept es n j = apply_other (place q) (repacked rolled_back) 0 0 n (place k j) es (λ i a b e. apart i j (sym e))

  module _ (d : Dims) (i p word cycle : ℕ) where
    line_kept : (s : Caches) → Kept k s.entries (snoop_line i word cycle q s).entries
    unfolding snoop_line
    line_kept s = pick_has (λ t. Kept k s.entries t.entries) (holds (line_at s q i) word) _ s (λ j. refl) (λ j. refl)

    entry_kept : (s : Caches) → Kept k s.entries (snoop_entry d word cycle q s).entries
    unfolding snoop_entry
    entry_kept s =
        let a = live_entry s.entries q d.entries word in
        pick_has (λ t. Kept k s.entries t.entries) (ltb a d.entries) _ s
        (λ j. get_or-set_other s.entries (place q a) (place k j) _ 0 (apart a j))
        (λ j. refl)

    pub snoop_kept : (s : Caches) → Kept k s.entries (snoop_one d i p word cycle q s).entries
    unfolding snoop_one
    snoop_kept s =
        pick_has (λ t. Kept k s.entries t.entries) (eqb q p) s _ (λ j. refl)
        (λ j. entry_kept (snoop_line i word cycle q s) j ∙ line_kept s j)

-- What a turn of q keeps of k's entries, it keeps of where the first one stands.
first_kept : (k n p word : ℕ) (s t u : Caches) → t ≡ u → Kept k s.entries u.entries →
    first_found n p word t.entries k ≡ first_found n p word s.entries k
first_kept k n p word s t u e h =
    kept_first k s.entries t.entries (λ j. ap (λ (x : Caches). get_or x.entries (place k j) 0) e ∙ h j) n p word

-- A loop's turn q, in which q's first entry is noted.
pub note : (d : Dims) (p word : ℕ) (l : List (Option ℕ)) (es : List ℕ) (q : ℕ) (v : Option ℕ) → q < d.processors → length l ≡ 8 →
    v ≡ first_found d.entries p word es q → IsNoted d p word l es q → IsNoted d p word (set l (q % 8) v) es (q + 1)
note d p word l es q v lt len e h few k to = by (ℕ_discrete k q)
  where
    at : q % 8 ≡ q
    at = omega arith

    by : Dec (k ≡ q) → get_or (set l (q % 8) v) k None ≡ first_found d.entries p word es k
    by (yes z) = rw (z, at) (get_or-set_same l q v None (omega arith) ∙ e)
    by (no z) = rw at (get_or-set_other l q k v None z ∙ h few k (omega arith))

-- What is noted of the processors from q on, and what is left of it where q has snooped.
abbrev pub IsLeft : Dims → ℕ → ℕ → List (Option ℕ) → List ℕ → ℕ → Type 0
IsLeft d p word l es q =
    d.processors ≤ 8 → (k : ℕ) → q ≤ k → k < d.processors → get_or l k None ≡ first_found d.entries p word es k

pub snooped_left : (d : Dims) (i p word cycle q : ℕ) (l : List (Option ℕ)) (s t : Caches) → t ≡ snoop_one d i p word cycle q s →
    q < d.processors → IsLeft d p word l s.entries q → IsLeft d p word l t.entries (q + 1)
snooped_left d i p word cycle q l s t e lt h few k from to =
    let kept = snoop_kept q k (omega arith) (omega arith) (λ z. omega arith) d i p word cycle s in
    h few k (omega arith) to ∙ sym (first_kept k d.entries p word s t _ e kept)
