-- TACTIVE and TSTATUS of one processor are set.
use mathlib.Core.Path.{◌≡◌, refl, ◌∙◌, ap, subst⁻¹}
use mathlib.Core.Logic.{◌≢◌}
use mathlib.Core.Bool.{Bool, true, false, not}
use mathlib.Core.List.{List}
use Prim.Native.Nat.{ℕ, ◌≤◌, ◌<◌}
use native.Mathlib.Decide.{ℕ_discrete, dec_lt}
use native.Mathlib.Omega.{arith}
use lib.Dec.{eqb, ltb}
use lib.ListN.{length, get_or, set, length-set, get_or-eq_default}
use lib.Seq.{get_or-set_same, get_or-set_other}
use borrow.Author.Tests.{ltb-true, lt-ltb}
use Rattle.laws.specs.Choice.{both}
use Rattle.rules.specs.State.{active_place, status_place, false_flag, true_flag}
use Rattle.rules.specs.Rollback.{status_down}
use Rattle.serial.proofs.Frame.{Flags}

-- a flag of each of n processors, which stands at `at`
abbrev pub flag : ℕ → (ℕ → ℕ) → List ℕ → ℕ → Bool
flag n at f p = both (ltb p n) (not (eqb (get_or f (at p) 0) false_flag))

module _ (n : ℕ) (at : ℕ → ℕ) (f : List ℕ) where
  flag_here : (p v : ℕ) → p < n → at p < length f → flag n at (set f (at p) v) p ≡ not (eqb v false_flag)
  flag_here p v lp l = rw (lt-ltb p n lp, get_or-set_same f (at p) v 0 l)

  flag_same : (q k v : ℕ) → (q < n → at q ≢ k) → flag n at (set f k v) q ≡ flag n at f q
  flag_same q k v h = by (ltb q n) refl
    where
      by : (b : Bool) → ltb q n ≡ b → both b (not (eqb (get_or (set f k v) (at q) 0) false_flag)) ≡ both b (not (eqb (get_or f (at q) 0) false_flag))
      by true e = ap (λ (x : ℕ). not (eqb x false_flag)) (get_or-set_other f k (at q) v 0 (h (ltb-true q n e)))
      by false e = refl

-- f' is f, but for p's flags, which are a and s
pub record FlagsTo (n p : ℕ) (a s : Bool) (f f' : List ℕ) : Type 0 where
  pub frame : Flags n f'
  pub active : flag n active_place f' p ≡ a
  pub status : flag n status_place f' p ≡ s
  pub active_else : (q : ℕ) → q ≢ p → flag n active_place f' q ≡ flag n active_place f q
  pub status_else : (q : ℕ) → q ≢ p → flag n status_place f' q ≡ flag n status_place f q

module _ {n : ℕ} {f : List ℕ} (F : Flags n f) (ln : n ≤ 8) (p : ℕ) (lp : p < n) where
  code_set : (k v j : ℕ) → v ≤ true_flag → get_or f j 0 ≤ true_flag → get_or (set f k v) j 0 ≤ true_flag
  code_set k v j lv lj = go (ℕ_discrete j k) (dec_lt k (length f))
    where
      go : Dec (j ≡ k) → Dec (k < length f) → get_or (set f k v) j 0 ≤ true_flag
      go (yes z) (yes l) = subst⁻¹ (λ (x : ℕ). x ≤ true_flag) (ap (λ (i : ℕ). get_or (set f k v) i 0) z ∙ get_or-set_same f k v 0 l) lv
      go (yes z) (no l) =
          subst⁻¹ (λ (x : ℕ). x ≤ true_flag) (get_or-eq_default (set f k v) 0 {n = j} (omega (arith, length-set f k v))) (omega arith)
      go (no z) l = subst⁻¹ (λ (x : ℕ). x ≤ true_flag) (get_or-set_other f k j v 0 z) lj

  flags_set : (k v : ℕ) → v ≤ true_flag → ((q : ℕ) → q < 8 → n ≤ q → (active_place q ≢ k) × (status_place q ≢ k)) → Flags n (set f k v)
  flags_set k v lv far = record {
    long = length-set f k v ∙ F.long;
    codes = λ q lq. (code_set k v (active_place q) lv (F.codes q lq).0, code_set k v (status_place q) lv (F.codes q lq).1);
    past = λ q lq l. (
      get_or-set_other f k (active_place q) v 0 (far q lq l).0 ∙ (F.past q lq l).0,
      get_or-set_other f k (status_place q) v 0 (far q lq l).1 ∙ (F.past q lq l).1,
    );
  }

  pub set_status : (v : ℕ) → v ≤ true_flag → FlagsTo n p (flag n active_place f p) (not (eqb v false_flag)) f (set f (status_place p) v)
  set_status v lv = record {
    frame = flags_set (status_place p) v lv (λ q lq l. ((λ z. omega arith), (λ z. omega arith)));
    active = flag_same n active_place f p (status_place p) v (λ l z. omega arith);
    status = flag_here n status_place f p v lp (omega (arith, F.long));
    active_else = λ q i. flag_same n active_place f q (status_place p) v (λ l z. omega arith);
    status_else = λ q i. flag_same n status_place f q (status_place p) v (λ l z. i (omega arith));
  }

  pub set_active : (v : ℕ) → v ≤ true_flag → FlagsTo n p (not (eqb v false_flag)) (flag n status_place f p) f (set f (active_place p) v)
  set_active v lv = record {
    frame = flags_set (active_place p) v lv (λ q lq l. ((λ z. omega arith), (λ z. omega arith)));
    active = flag_here n active_place f p v lp (omega (arith, F.long));
    status = flag_same n status_place f p (active_place p) v (λ l z. omega arith);
    active_else = λ q i. flag_same n active_place f q (active_place p) v (λ l z. i (omega arith));
    status_else = λ q i. flag_same n status_place f q (active_place p) v (λ l z. omega arith);
  }

  pub status_down_flags : FlagsTo n p (flag n active_place f p) false f (status_down f p)
  unfolding status_down
  status_down_flags = set_status false_flag (omega arith)

pub ended_flags : {n : ℕ} {f : List ℕ} → Flags n f → n ≤ 8 → (p : ℕ) → p < n
    → FlagsTo n p false true f (set (set f (active_place p) false_flag) (status_place p) true_flag)
ended_flags {n} {f} F ln p lp =
    let a = set_active F ln p lp false_flag (omega arith) in
    let b = set_status a.frame ln p lp true_flag (omega arith) in
    record {
      frame = b.frame;
      active = b.active ∙ a.active;
      status = b.status;
      active_else = λ q i. b.active_else q i ∙ a.active_else q i;
      status_else = λ q i. b.status_else q i ∙ a.status_else q i;
    }
