-- Columns that 10 passes have one length, so a place of a run's loop is in each of them.
use mathlib.Core.Path.{◌≡◌, refl, sym, ◌∙◌}
use mathlib.Core.Bool.{Bool, true, false, ◌&&◌}
use Rattle.std.specs.List.{list_all}
use mathlib.Core.List.{List, [], ◌∷◌}
use Prim.Native.Nat.{ℕ, zero, suc, ◌<◌, ◌≤◌}
use native.Mathlib.Omega.{arith}
use lib.Dec.{eqb, leb}
use lib.ListN.{length, get_or, length-set}
use borrow.Author.Tests.{eqb-true, le-leb, lt-leb}
use Rattle.laws.specs.Choice.{both, both_left, both_right}
use Rattle.entry.specs.declared.answer.Answered.{Answered}
use Rattle.rules.specs.Run.{Steps, Columns, written, most_steps, all_are, columns_ok}
use Rattle.runs.specs.Within.{InSteps, InColumns}

-- a column keeps its length
pub record SameLengths (c k : Columns) : Type 0 where
  pub answers : length c.answers ≡ length k.answers
  pub results : length c.results ≡ length k.results
  pub read : length c.read ≡ length k.read
  pub rfo : length c.rfo ≡ length k.rfo
  pub write : length c.write ≡ length k.write
  pub t_read : length c.t_read ≡ length k.t_read
  pub t_rfo : length c.t_rfo ≡ length k.t_rfo
  pub busy : length c.busy ≡ length k.busy

pub same_refl : (c : Columns) → SameLengths c c
same_refl c =
    record { answers = refl; results = refl; read = refl; rfo = refl; write = refl; t_read = refl; t_rfo = refl; busy = refl }

pub written_same : (c k cs : Columns) (i : ℕ) (a : Answered) → cs ≡ written c i a → SameLengths c k → SameLengths cs k
written_same c k cs i a e h =
    rw e
    (record {
      answers = length-set c.answers i _ ∙ h.answers;
      results = length-set c.results i _ ∙ h.results;
      read = length-set c.read i _ ∙ h.read;
      rfo = length-set c.rfo i _ ∙ h.rfo;
      write = length-set c.write i _ ∙ h.write;
      t_read = length-set c.t_read i _ ∙ h.t_read;
      t_rfo = length-set c.t_rfo i _ ∙ h.t_rfo;
      busy = length-set c.busy i _ ∙ h.busy;
    })

-- that test of all of them, read by `all`
pub all_are_list_all : (n : ℕ) (ok : Bool) (l : List ℕ) → all_are n ok l ≡ both ok (list_all (λ x. eqb x n) l)
all_are_list_all n true [] = refl
all_are_list_all n false [] = refl
all_are_list_all n true (x ∷ l) = all_are_list_all n (eqb x n) l ∙ by (eqb x n)
  where
    by : (b : Bool) → both b (list_all (λ x. eqb x n) l) ≡ (b && list_all (λ x. eqb x n) l)
    by true = refl
    by false = refl
all_are_list_all n false (x ∷ l) = all_are_list_all n false l

all_ok : (n : ℕ) (ok : Bool) (l : List ℕ) → all_are n ok l ≡ true → ok ≡ true
all_ok n ok [] h = h
all_ok n ok (x ∷ l) h = both_left ok (eqb x n) (all_ok n (both ok (eqb x n)) l h)

all_are_lem : (n : ℕ) (ok : Bool) (l : List ℕ) → all_are n ok l ≡ true → (k : ℕ) → k < length l → get_or l k 0 ≡ n
all_are_lem n ok [] h k lt = absurd (omega arith)
all_are_lem n ok (x ∷ l) h zero lt = eqb-true x n (both_right ok (eqb x n) (all_ok n (both ok (eqb x n)) l h))
all_are_lem n ok (x ∷ l) h (suc k) lt = all_are_lem n (both ok (eqb x n)) l h k (omega arith)

module _ (x : Steps) (c : Columns) where
  abbrev pub lengths : List ℕ
  lengths =
      length x.cores ∷
      length x.words ∷
      length x.values ∷
      length c.answers ∷
      length c.results ∷
      length c.read ∷
      length c.rfo ∷
      length c.write ∷
      length c.t_read ∷
      length c.t_rfo ∷
      length c.busy ∷
      []

  module _ (n : ℕ) (e : n ≡ length x.ops) where
    pub lengths_ok : n ≤ most_steps → list_all (λ m. eqb m n) lengths ≡ columns_ok x c
    unfolding columns_ok
    lengths_ok h = rw (← e, le-leb n most_steps h) (sym (all_are_list_all n true lengths))

    pub too_long : most_steps < n → leb n most_steps ≡ columns_ok x c
    unfolding columns_ok
    too_long h = rw (← e, lt-leb n most_steps h) (sym (all_are_list_all n false lengths))

module _ (x : Steps) (c : Columns) (ok : columns_ok x c ≡ true) (i : ℕ) (h : i < length x.ops) where
  inside : (k : ℕ) → k < 11 → i < get_or (lengths x c) k 0
  unfolding columns_ok
  inside k lt = rw (all_are_lem (length x.ops) (leb (length x.ops) most_steps) (lengths x c) ok k lt) h

  pub in_steps : InSteps x i
  in_steps = record { ops = h; cores = inside 0 (omega arith); words = inside 1 (omega arith); values = inside 2 (omega arith) }

  -- also where the columns were written since
  pub in_columns : (k : Columns) → SameLengths k c → InColumns k i
  in_columns k same = record {
    answers = rw same.answers (inside 3 (omega arith));
    results = rw same.results (inside 4 (omega arith));
    read = rw same.read (inside 5 (omega arith));
    rfo = rw same.rfo (inside 6 (omega arith));
    write = rw same.write (inside 7 (omega arith));
    t_read = rw same.t_read (inside 8 (omega arith));
    t_rfo = rw same.t_rfo (inside 9 (omega arith));
    busy = rw same.busy (inside 10 (omega arith));
  }
