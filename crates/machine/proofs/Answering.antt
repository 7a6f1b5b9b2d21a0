-- What the published functions answer, over plain variables, and that what is told of a result tells the result.
use mathlib.Core.Path.{◌≡◌, refl, sym, ◌∙◌, ap}
use mathlib.Core.Bool.{true}
use mathlib.Core.List.{List}
use Prim.Native.Nat.{ℕ, ◌<◌}
use borrow.Author.Tests.{lt-ltb}
use Rattle.std.specs.Prelude.{Result, Ok, Err}
use Rattle.entry.specs.declared.answer.Answer.TheVariants.{Value}
use Rattle.entry.specs.declared.refusals.Refusal.{Refusal}
use Rattle.entry.specs.Refusals.{accepted, number_of}
use Rattle.entry.proofs.Refused.{refused_once}
use Rattle.rules.specs.declared.Machine.{Machine}
use Rattle.rules.specs.declared.NotMade.{NotMade}
use Rattle.rules.specs.declared.NotSettled.{NotSettled}
use Rattle.rules.specs.State.{caches_of}
use Rattle.rules.specs.Making.{Made, made_by}
use Rattle.rules.specs.SoundTest.{sound_of}
use Rattle.rules.specs.Settled.{settled_in}
use Rattle.rules.specs.Step.{settled_of, Settle, settled_by}

module _ (m : Machine) (sound : sound_of m.dims (caches_of m) ≡ true) where
  pub settles_word : (word w v : ℕ) → word < m.dims.words → w ≡ word → v ≡ settled_in m.dims w (caches_of m) → Value v ≡ settled_of m word
  unfolding settled_of
  settles_word word w v h is e = rw (sound, lt-ltb word m.dims.words h, e, is)

-- what is told of a result tells it: that there is a refusal, and which, by its number, and the value beside either
told_once : {A E B : Type 0} (seen : Result A E → B) (number : B → ℕ) (refusal : E → Refusal) →
    ((x : A) → number (seen (Ok x)) ≡ accepted) → ((e : E) → number (seen (Err e)) ≡ number_of (refusal e)) →
    ((x y : A) → seen (Ok x) ≡ seen (Ok y) → x ≡ y) → ((e f : E) → seen (Err e) ≡ seen (Err f) → refusal e ≡ refusal f → e ≡ f) →
    (r r' : Result A E) → seen r ≡ seen r' → r ≡ r'
told_once seen number refusal ok err same_ok same_err (Ok x) (Ok y) h = ap Ok (same_ok x y h)
told_once seen number refusal ok err same_ok same_err (Err e) (Err f) h =
    let t = refused_once (Err (refusal e)) (Err (refusal f)) (sym (err e) ∙ ap number h ∙ err f) in
    ap Err (same_err e f h (cc))
told_once seen number refusal ok err same_ok same_err (Ok x) (Err e) h =
    let t = refused_once (Ok tt) (Err (refusal e)) (sym (ok x) ∙ ap number h ∙ err e) in absurd (cc)
told_once seen number refusal ok err same_ok same_err (Err e) (Ok x) h =
    let t = refused_once (Err (refusal e)) (Ok tt) (sym (err e) ∙ ap number h ∙ ok x) in absurd (cc)

not_made : (e f : NotMade) → e.refusal ≡ f.refusal → e.machine ≡ f.machine → e ≡ f
not_made e f r m =
    ap (λ (n : Refusal). record { refusal = n; machine = e.machine }) r ∙
    ap (λ (n : Machine). record { refusal = f.refusal; machine = n }) m

not_settled : (e f : NotSettled) → e.refusal ≡ f.refusal → e.values ≡ f.values → e ≡ f
not_settled e f r v =
    ap (λ (n : Refusal). record { refusal = n; values = e.values }) r ∙
    ap (λ (n : List ℕ). record { refusal = f.refusal; values = n }) v

pub made_once : (r r' : Result Machine NotMade) → made_by r ≡ made_by r' → r ≡ r'
made_once =
    told_once made_by (λ (m : Made). m.refusal) (λ (e : NotMade). e.refusal) (λ x. refl) (λ e. refl)
    (λ x y h. ap (λ (m : Made). m.machine) h)
    (λ e f h r. not_made e f r (ap (λ (m : Made). m.machine) h))

pub settled_once : (r r' : Result (List ℕ) NotSettled) → settled_by r ≡ settled_by r' → r ≡ r'
settled_once =
    told_once settled_by (λ (s : Settle). s.refusal) (λ (e : NotSettled). e.refusal) (λ x. refl) (λ e. refl)
    (λ x y h. ap (λ (s : Settle). s.values) h)
    (λ e f h r. not_settled e f r (ap (λ (s : Settle). s.values) h))
