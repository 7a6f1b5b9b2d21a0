-- Below 8 processors, rolling each back and having it snoop at once is rolling all back first: a rollback of k and the snooping of another
-- are the same in either order. Assumes nothing.
use mathlib.Core.Path.{◌≡◌, refl, ◌∙◌, ap, sym}
use mathlib.Core.Logic.{◌≢◌}
use mathlib.Core.Bool.{Bool, true, false}
use mathlib.Core.List.{List}
use Prim.Native.Nat.{ℕ, zero, suc, ◌+◌, ◌≤◌, ◌<◌}
use native.Mathlib.Omega.{arith}
use lib.Dec.{eqb, ltb}
use lib.ListN.{set}
use lib.Seq.{get_or-set_other, set_comm}
use Rattle.laws.specs.Choice.{pick}
use Rattle.laws.specs.Fold.{fold_range}
use Rattle.laws.specs.Places.{apply_at, apply_from}
use Rattle.entry.specs.Entry.{rolled_back}
use Rattle.rules.specs.declared.Dims.{Dims}
use Rattle.rules.specs.declared.Caches.{Caches}
use Rattle.rules.specs.State.{place, line_at}
use Rattle.rules.specs.Own.{home, holds, live_entry}
use Rattle.rules.specs.Rollback.{repacked, rolled_entries, rollback}
use Rattle.rules.specs.Snoop.{snoop_line, snoop_entry, snoop_one, snoop, other_opposes, roll_one, roll_others, plain_request}
use Rattle.snoop.proofs.Apart.{kept_live, kept_opposes, apart, rolled_kept, snoop_kept}

-- Two loops in one. f k is to pass every g q of an earlier turn.
module _ {A : Type 0} (f g : ℕ → A → A) where
  past_loop : (q i n : ℕ) → ((k : ℕ) → i ≤ k → k < i + n → (y : A) → f k (g q y) ≡ g q (f k y)) → (x : A) →
      fold_range f i n (g q x) ≡ g q (fold_range f i n x)
  unfolding fold_range
  past_loop q i zero h x = refl
  past_loop q i (suc n) h x =
      ap (fold_range f (suc i) n) (h i (omega arith) (omega arith) x) ∙
      past_loop q (suc i) n (λ k a b. h k (omega arith) (omega arith)) (f i x)

  two_loops : (i n : ℕ) → ((q k : ℕ) → i ≤ q → q < k → k < i + n → (y : A) → f k (g q y) ≡ g q (f k y)) → (x : A) →
      fold_range (λ q y. g q (f q y)) i n x ≡ fold_range g i n (fold_range f i n x)
  unfolding fold_range
  two_loops i zero h x = refl
  two_loops i (suc n) h x =
      two_loops (suc i) n (λ q k a b c. h q k (omega arith) b (omega arith)) (g i (f i x)) ∙
      ap (fold_range g (suc i) n) (past_loop i (suc i) n (λ k a b. h i k (omega arith) (omega arith) (omega arith)) (f i x))

past_pick : (h : Caches → Caches) (b : Bool) (t s : Caches) → h (pick b t s) ≡ pick b (h t) (h s)
past_pick h true t s = refl
past_pick h false t s = refl

module _ (q k : ℕ) (hq : q < 8) (hk : k < 8) (ne : q ≢ k) where
  rolled_set : (es : List ℕ) (i v n : ℕ) → rolled_entries (set es (place q i) v) k n ≡ set (rolled_entries es k n) (place q i) v
  unfolding rolled_entries apply_from
  rolled_set es i v n = past_loop turn (λ a l. set l (place q i) v) 0 0 n (λ j a b l. past j l) es
    where
      turn : ℕ → List ℕ → List ℕ
      turn = apply_at (place k) (repacked rolled_back) 0

      past : (j : ℕ) (l : List ℕ) → turn j (set l (place q i) v) ≡ set (turn j l) (place q i) v
      past j l =
          rw (get_or-set_other l (place q i) (place k j) v 0 (apart q k hq hk ne i j))
          (set_comm l (place q i) (place k j) v _ (λ e. apart q k hq hk ne i j (sym e)))

  module _ (d : Dims) (i p word cycle : ℕ) where
    line_past : (s : Caches) → rollback d k (snoop_line i word cycle q s) ≡ snoop_line i word cycle q (rollback d k s)
    unfolding snoop_line
    line_past s = past_pick (rollback d k) (holds (line_at s q i) word) _ s

    entry_past : (s : Caches) → rollback d k (snoop_entry d word cycle q s) ≡ snoop_entry d word cycle q (rollback d k s)
    unfolding snoop_entry
    entry_past s =
        let es = s.entries in
        let kept = rolled_kept k q hk hq (λ e. ne (sym e)) es d.entries in
        let a = live_entry es q d.entries word in
        rw (kept_live q es (rolled_entries es k d.entries) kept d.entries word, kept a, ← rolled_set es a _ d.entries)
        (past_pick (rollback d k) (ltb a d.entries) _ s)

    rollback_past : (s : Caches) → rollback d k (snoop_one d i p word cycle q s) ≡ snoop_one d i p word cycle q (rollback d k s)
    unfolding snoop_one
    rollback_past s =
        past_pick (rollback d k) (eqb q p) s _ ∙
        ap (pick (eqb q p) (rollback d k s)) (entry_past (snoop_line i word cycle q s) ∙ ap (snoop_entry d word cycle q) (line_past s))

    roll_past : (s : Caches) →
        roll_one d p word cycle k (snoop_one d i p word cycle q s) ≡ snoop_one d i p word cycle q (roll_one d p word cycle k s)
    unfolding roll_one
    roll_past s =
        let one = snoop_one d i p word cycle q in
        rw (kept_opposes k s.entries (one s).entries (snoop_kept q k hq hk ne d i p word cycle s) d p word cycle, rollback_past s)
        (sym (past_pick one (other_opposes d p word cycle s.entries k) (rollback d k s) s))

-- One turn of both.
abbrev pub roll_and_snoop : Dims → ℕ → ℕ → ℕ → ℕ → ℕ → Caches → Caches
roll_and_snoop d i p word cycle q s = snoop_one d i p word cycle q (roll_one d p word cycle q s)

pub plain_together : (d : Dims) (p word cycle : ℕ) → d.processors ≤ 8 → (s : Caches) →
    fold_range (roll_and_snoop d (home d word) p word cycle) 0 d.processors s ≡ plain_request d p word cycle s
unfolding plain_request snoop roll_others
plain_together d p word cycle few s =
    two_loops (roll_one d p word cycle) (snoop_one d (home d word) p word cycle) 0 d.processors
    (λ q k a b c. roll_past q k (omega arith) (omega arith) (λ e. omega arith) d (home d word) p word cycle)
    s
