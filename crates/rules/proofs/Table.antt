-- A case as rows: each a step and all that must come back of it. A case passes when its machine is made, the run over its steps takes them
-- all, and every column of the run is the rows' own.
use mathlib.Core.Bool.{Bool, true, false}
use mathlib.Core.List.{List, [], ◌∷◌, map}
use Prim.Native.Nat.{ℕ}
use lib.Dec.{eqb}
use lib.ListN.{length, replicate}
use Rattle.laws.specs.Choice.{pick, both}
use Rattle.entry.specs.declared.answer.Answer.{Answer}
use Rattle.entry.specs.declared.answer.Counts.{Counts}
use Rattle.entry.specs.Answer.{answer_number, answer_value}
use Rattle.rules.specs.declared.Dims.{Dims}
use Rattle.laws.specs.Fold.{fold_range}
use Rattle.laws.specs.Search.{first_from}
use Rattle.laws.specs.Until.{until_range}
use Rattle.laws.specs.Places.{apply_from}
use Rattle.entry.specs.Refusals.{accepted}
use Rattle.rules.specs.Making.{dims_refusal, make_refusal, fresh, make_of}
use Rattle.rules.specs.Own.{home, find_entry, lowest, free_slot, live_entry}
use Rattle.rules.specs.Rollback.{rolled_entries, status_down, committed_entries}
use Rattle.rules.specs.Snoop.{written_back, writes, snoop_line, snoop_entry, snoop_one, snoop}
use Rattle.rules.specs.Snoop.{opposes, first_opposing, refuses, roll_one, roll_others, plain_request}
use Rattle.rules.specs.Load.{load_miss, load_on, load}
use Rattle.rules.specs.Store.{roll_own, drop_normal, store_through, store_miss, store_line, store}
use Rattle.rules.specs.Transact.{drop_line, finish, hit, open_normal, clear_backup, fill_backup, fill, request, miss_at, miss, seek, transact}
use Rattle.rules.specs.Ends.{commit, abort, validate, interrupt}
use Rattle.rules.specs.SoundTest.{mark_all, own_all, copy_ok, is_home, line_ok, flags_up, backup_ok}
use Rattle.rules.specs.SoundTest.{entry_ok, lines_ok, entries_ok, flags_ok, memory_ok, copies_ok, sound_of}
use Rattle.rules.specs.Step.{operands_refusal, take_step}
use Rattle.rules.specs.Run.{Steps, steps, Columns, columns, Left, columns_ok, run_sound, run_of}

pub record Row : Type 0 where
  pub op : ℕ
  pub core : ℕ
  pub word : ℕ
  pub value : ℕ
  pub answer : Answer
  pub counts : Counts

-- step, core, word and value; answer and counts
abbrev pub row : ℕ → ℕ → ℕ → ℕ → Answer → Counts → Row
row op p w v a c = record { op = op; core = p; word = w; value = v; answer = a; counts = c }

pub record Case : Type 0 where
  pub machine : Dims
  pub memory : List ℕ
  pub rows : List Row

abbrev pub case : Dims → List ℕ → List Row → Case
case d m r = record { machine = d; memory = m; rows = r }

abbrev pub steps_of : List Row → Steps
steps_of r = steps (map (λ x. x.op) r) (map (λ x. x.core) r) (map (λ x. x.word) r) (map (λ x. x.value) r)

abbrev pub columns_of : List Row → Columns
columns_of r =
    columns
    (map (λ x. answer_number x.answer) r)
    (map (λ x. answer_value x.answer) r)
    (map (λ x. x.counts.read) r)
    (map (λ x. x.counts.rfo) r)
    (map (λ x. x.counts.write) r)
    (map (λ x. x.counts.t_read) r)
    (map (λ x. x.counts.t_rfo) r)
    (map (λ x. x.counts.busy) r)

-- columns of n places, all 0
abbrev pub blank : ℕ → Columns
blank n = let z : List ℕ = replicate n 0 in columns z z z z z z z z

abbrev pub same : List ℕ → List ℕ → Bool
same [] [] = true
same [] (y ∷ m) = false
same (x ∷ l) [] = false
same (x ∷ l) (y ∷ m) = let rest = same l m in pick (eqb x y) rest false

abbrev pub same_columns : Columns → Columns → Bool
same_columns a b =
    both (same a.answers b.answers)
    (both (same a.results b.results)
    (both (same a.read b.read)
    (both (same a.rfo b.rfo)
    (both (same a.write b.write)
    (both (same a.t_read b.t_read) (both (same a.t_rfo b.t_rfo) (same a.busy b.busy)))))))

abbrev pub all_taken : ℕ → Columns → Left → Bool
all_taken n c r = both (eqb r.ran.taken n) (both (eqb r.ran.refusal accepted) (same_columns r.columns c))

-- The line names every definition that a run computes with, so that a table's own proof names only this one.
unfoldable pub passes : Case → Bool
unfolding fold_range first_from until_range apply_from dims_refusal make_refusal fresh make_of home find_entry lowest free_slot live_entry
    rolled_entries status_down committed_entries written_back writes snoop_line snoop_entry snoop_one snoop opposes first_opposing refuses roll_one
    roll_others plain_request load_miss load_on load roll_own drop_normal store_through store_miss store_line store drop_line finish hit open_normal
    clear_backup fill_backup fill request miss_at miss seek transact commit abort validate interrupt mark_all own_all copy_ok is_home line_ok
    flags_up backup_ok entry_ok lines_ok entries_ok flags_ok memory_ok copies_ok sound_of operands_refusal take_step columns_ok run_sound run_of
passes c =
    let m = make_of c.machine c.memory in
    let n = length c.rows in
    both (eqb m.refusal accepted) (all_taken n (columns_of c.rows) (run_of m.machine (steps_of c.rows) (blank n)))

abbrev pub all_of : {A : Type 0} → (A → Bool) → List A → Bool
all_of test [] = true
all_of test (x ∷ l) = let rest = all_of test l in pick (test x) rest false
