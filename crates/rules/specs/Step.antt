-- One step: refusals 9, 6, 7, 8, then the step by its number; and the settled values, with refusals 9 and 8.
use Rattle.std.specs.Prelude.{Result, Ok, Err, not, List, ℕ, ◌%◌, eqb, ltb, set, replicate}
use Rattle.laws.specs.Choice.{pick, either}
use Rattle.laws.specs.Fold.{fold_range}
use Rattle.entry.specs.declared.answer.Answer.{Answer}
use Rattle.entry.specs.declared.answer.Answer.TheVariants.{Value, Refused}
use Rattle.entry.specs.declared.answer.Answered.{Answered}
use Rattle.entry.specs.declared.step.Step.{Step}
use Rattle.entry.specs.Numbers.{LOAD, STORE, LT, LTX, ST, COMMIT, ABORT, VALIDATE, INTERRUPT}
use Rattle.entry.specs.Refusals.{accepted, not_sound, no_such_step, no_such_processor, no_such_word, unless, number_of}
use Rattle.entry.specs.Step.{uses_word}
use Rattle.entry.specs.Answer.{refused_by}
use Rattle.rules.specs.declared.Dims.{Dims}
use Rattle.rules.specs.declared.Machine.{Machine}
use Rattle.rules.specs.declared.Stepped.{Stepped}
use Rattle.rules.specs.declared.NotSettled.{NotSettled}
use Rattle.rules.specs.declared.Caches.{Caches}
use Rattle.rules.specs.State.{caches_of, machine_of, Outcome, outcome}
use Rattle.rules.specs.Load.{load}
use Rattle.rules.specs.Store.{store}
use Rattle.rules.specs.Transact.{transact}
use Rattle.rules.specs.Ends.{commit, abort, validate, interrupt}
use Rattle.rules.specs.Settled.{settled_in}
use Rattle.rules.specs.SoundTest.{sound_of}

-- 7: "no such processor". 8: "a used word is out of range"; "An unused field is ignored."
unfoldable pub operands_refusal : Dims → Step → ℕ
operands_refusal d x =
    unless (ltb x.core d.processors) no_such_processor
    (unless (either (not (uses_word x.op)) (ltb x.word d.words)) no_such_word
    accepted)

-- "A refusal gives its number, value 0 and zero counts; state and columns stay."
abbrev pub refused : ℕ → Caches → Outcome
refused n s = outcome (refused_by n) s

-- what an instruction does, where its operands are not refused
abbrev pub allowed : Dims → Step → Caches → Outcome → Outcome
allowed d x s r = unless (eqb (operands_refusal d x) accepted) (refused (operands_refusal d x) s) r

-- Eight bits hold every word of a machine: where 8 passes, the remainder changes nothing.
abbrev pub narrowed : ℕ → ℕ
narrowed word = word % 256

-- "Numbers: 0 LOAD, 1 STORE, 2 LT, 3 LTX, 4 ST, 5 COMMIT, 6 ABORT, 7 VALIDATE, 8 INTERRUPT." 6: "step number above 8".
unfoldable pub take_step : Dims → Step → Caches → Outcome
take_step d x s =
    let p = x.core in
    let w = narrowed x.word in
    let v = x.value in
    pick (eqb x.op LOAD) (allowed d x s (load d p w s))
    (pick (eqb x.op STORE) (allowed d x s (store d p w v s))
    (pick (eqb x.op LT) (allowed d x s (transact d LT p w v s))
    (pick (eqb x.op LTX) (allowed d x s (transact d LTX p w v s))
    (pick (eqb x.op ST) (allowed d x s (transact d ST p w v s))
    (pick (eqb x.op COMMIT) (allowed d x s (commit d p s))
    (pick (eqb x.op ABORT) (allowed d x s (abort d p s))
    (pick (eqb x.op VALIDATE) (allowed d x s (validate p s))
    (pick (eqb x.op INTERRUPT) (allowed d x s (interrupt d p s))
    (refused no_such_step s)))))))))

abbrev pub stepped : Answered → Machine → Stepped
stepped a m = record { told = a; machine = m }

abbrev pub stepped_of : Dims → Outcome → Stepped
stepped_of d r = stepped r.told (machine_of d r.after)

-- 9: "the state is not sound"
unfoldable pub step_of : Machine → Step → Stepped
step_of m x =
    let r = take_step m.dims x (caches_of m) in
    unless (sound_of m.dims (caches_of m)) (stepped (refused_by not_sound) m) (stepped_of m.dims r)

-- The settled value of one word.
unfoldable pub settled_of : Machine → ℕ → Answer
settled_of m word =
    let a = Value (settled_in m.dims word (caches_of m)) in
    unless (sound_of m.dims (caches_of m)) (Refused not_sound) (unless (ltb word m.dims.words) (Refused no_such_word) a)

-- every word's settled value, 0 past the words; zeros beside a refusal
pub record Settle : Type 0 where
  pub refusal : ℕ
  pub values : List ℕ

abbrev pub settle : ℕ → List ℕ → Settle
settle n values = record { refusal = n; values = values }

abbrev pub settle_turn : Dims → Caches → ℕ → List ℕ → List ℕ
settle_turn d s word values = set values word (settled_in d word s)

-- The settled value of every word, 0 past the words.
unfoldable pub settled_all : Dims → Caches → List ℕ
settled_all d s = fold_range (settle_turn d s) 0 d.words (replicate 256 0)

-- every word's settled value, or 9
unfoldable pub settle_of : Machine → Settle
settle_of m =
    let a = settled_all m.dims (caches_of m) in
    unless (sound_of m.dims (caches_of m)) (settle not_sound (replicate 256 0)) (settle accepted a)

-- a settling's result so seen
abbrev pub settled_by : Result (List ℕ) NotSettled → Settle
settled_by (Ok values) = settle accepted values
settled_by (Err r) = settle (number_of r.refusal) r.values
