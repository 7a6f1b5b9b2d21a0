-- No second answer satisfies a contract of this crate, the final contents of all that is lent included. Each is stated on the contract's own
-- reading, `Post`. Assumes nothing.
use mathlib.Core.Path.{◌∙◌, sym}
use Rattle.laws.specs.OneAnswer.{OneAnswer}
use mathlib.Core.List.{List}
use Prim.Native.Nat.{ℕ}
use denote.Ref.{Bor}
use denote.MutBor.{MutBor}
use Rattle.rules.specs.Run.{Columns, columns}
use Rattle.exports.specs.Handed.{handed, step_lent, run_lent}
use Rattle.exports_c.proofs.stirnfeld_make.Reads as make-reads
use Rattle.exports_c.proofs.stirnfeld_sound.Reads as sound-reads
use Rattle.exports_c.proofs.stirnfeld_step.Reads as step-reads
use Rattle.exports_c.proofs.stirnfeld_run.Reads as run-reads
use Rattle.exports_c.proofs.stirnfeld_settle.Reads as settle-reads

-- twelve parameters, the columns of steps and of answers, and what those of answers hold at exit
abbrev TwelveColumns : Type 0 → Type 0
TwelveColumns R =
    let I = Bor (List ℕ) in
    let L = MutBor (List ℕ) in
    I × (I × (I × (I × (L × (L × (L × (L × (L × (L × (L × (L × R)))))))))))

abbrev seen_columns : {R : Type 0} → TwelveColumns R → Columns
seen_columns (ops, (cores, (words, (values, (a, (v, (r, (o, (w, (s, (t, (b, rest)))))))))))) =
    columns a.now v.now r.now o.now w.now s.now t.now b.now

pub make_unique : OneAnswer make-reads.Post (λ κs r s. handed r s.1.1.1.1.1.0.now)
make_unique κs a r r' s s' p q = p ∙ sym q

pub sound_unique : OneAnswer sound-reads.Post (λ κs r s. r)
sound_unique κs a r r' s s' p q = p ∙ sym q

pub step_unique : OneAnswer step-reads.Post (λ κs r s. handed r (step_lent s.0.now s.1.1.1.1.1.0.now))
step_unique κs a r r' s s' p q = p ∙ sym q

pub run_unique : OneAnswer run-reads.Post
    (λ κs r s. handed r (run_lent s.1.1.1.1.1.1.1.1.1.1.1.1.1.0.now s.0.now (seen_columns s.1)))
run_unique κs a r r' s s' p q = p ∙ sym q

pub settle_unique : OneAnswer settle-reads.Post (λ κs r s. handed r s.1.0.now)
settle_unique κs a r r' s s' p q = p ∙ sym q
