-- LT, LTX and ST on a miss: slots are freed, the request is made, and both entries receive the data.
use mathlib.Core.Path.{◌≡◌, refl, sym, ◌∙◌, ap, subst⁻¹}
use mathlib.Core.Logic.{◌≢◌, ◌⊎◌, inl, inr}
use mathlib.Core.Bool.{Bool, true, false}
use mathlib.Core.List.{List}
use Prim.Native.Nat.{ℕ, ◌+◌, ◌<◌}
use native.Mathlib.Decide.{ℕ_discrete}
use native.Mathlib.Omega.{arith}
use lib.Dec.{eqb, ltb}
use lib.ListN.{get_or}
use borrow.Author.Tests.{ltb-true, ltb-false}
use Rattle.laws.specs.Choice.{pick}
use Rattle.entry.specs.declared.Entry.{Entry}
use Rattle.entry.specs.declared.answer.Answer.TheVariants.{Aborted}
use Rattle.entry.specs.Numbers.{INVALID, VALID, RESERVED, DIRTY, BACKUP, TENTATIVE, T_READ, T_RFO}
use Rattle.entry.specs.Packing.{entry, no_entry, InRange}
use Rattle.entry.specs.Answer.{asked, quiet}
use Rattle.rules.specs.declared.Dims.{Dims}
use Rattle.rules.specs.declared.Caches.{Caches}
use Rattle.rules.specs.State.{caches, gives, counted, entry_at, with_copy, with_entry, word_at}
use Rattle.rules.specs.Own.{home, free_slot}
use Rattle.rules.specs.Rollback.{rollback}
use Rattle.rules.specs.Snoop.{writes, clear_entry, snoop, refuses}
use Rattle.rules.specs.Transact.{finish, busy, clear_backup, fill_backup, fill, request, miss_at, miss}
use Rattle.theory.specs.View.{Back, bare, backup, none, tentative, View}
use Rattle.theory.specs.Change.{OnlyWord}
use Rattle.theory.proofs.Moves.{at_trans}
use Rattle.theory.proofs.Cache.{slotBackup, slot_tentative, back_on}
use Rattle.theory.proofs.Looks.{none_backs}
use Rattle.theory.proofs.Updates.{AllTidy, SlotSet, entered, backs_up}
use Rattle.theory.specs.Protocol.{Kind, reading, owning, granted, Opened, misses, no_room, no_grant, Freed, empty}
use Rattle.theory.proofs.Refine.{same_refl, freed_none}
use Rattle.serial.specs.Shown.{by_access}
use Rattle.serial.specs.Taking.{value_end}
use Rattle.serial.proofs.Decode.{state_of, slot_of, decoded, seen, copy_here, copy_else}
use Rattle.serial.proofs.Set.{Fit, memory_same, set_slot, entry_fit}
use Rattle.serial.proofs.Ends.{Does, rollback_is}
use Rattle.serial.proofs.Find.{slot_at}
use Rattle.serial.proofs.Others.{Cycle, refused_busy}
use Rattle.serial.proofs.Requests.{granted_served, is-T-READ, is-T-RFO}
use Rattle.serial.proofs.Lined.{own_copy}
use Rattle.serial.proofs.Slotted.{free_slot_usable, Emptied, clear_emptied}
use Rattle.serial.proofs.Access.{Access, lt, ltx, st, number, kind, aborted_does, finish_does}
use Rattle.serial.proofs.Normal.{entry_range, entry_of}

-- both entries receive the data x in state c
pub record Got (d : Dims) (p w c x i : ℕ) (s s' : Caches) : Type 0 where
  pub fit : Fit d s'
  pub at_w : OnlyWord p w (seen d s) (seen d s')
  pub back : Back
  pub back_is : (back ≡ bare) ⊎ (back ≡ backup (state_of c) x)
  pub here : (seen d s').copy w p ≡ tentative (state_of c) x back false
  pub memory_same : s'.memory ≡ s.memory
  pub tag : (entry_at s' p i).tag ≡ TENTATIVE
  pub word : (entry_at s' p i).word ≡ w

module _ {d : Dims} {s : Caches} (F : Fit d s) (p : ℕ) (lp : p < d.processors) (w : ℕ) (lw : w < d.words) (c x : ℕ) (lc : c < 4) (nc : c ≢ INVALID)
    (clean : eqb c DIRTY ≡ false) (lx : x < value_end) (gone : (seen d s).copy w p ≡ none) (i : ℕ) (li : i < d.entries)
    (free-i : entry_at s p i ≡ no_entry) where
  abbrev s_t : Caches
  s_t = with_entry s p i (entry c TENTATIVE w x)

  r_t : InRange (entry c TENTATIVE w x)
  r_t = entry_range c TENTATIVE w x lc (omega arith) lw F.frame.size.words lx

  set_t : SlotSet d.entries (home d) p i (slot_tentative (state_of c) w x (eqb c DIRTY)) w (decoded d s) (decoded d s_t)
  set_t = set_slot F.frame (memory_same F.frame w) p i lp (entry c TENTATIVE w x) r_t li

  tentative_is : slot_tentative (state_of c) w x (eqb c DIRTY) ≡ slot_tentative (state_of c) w x false
  tentative_is = ap (slot_tentative (state_of c) w x) clean

  en : AllTidy d.entries (home d) (decoded d s_t) × OnlyWord p w (seen d s) (seen d s_t)
      × ((seen d s_t).copy w p ≡ tentative (state_of c) x bare false)
  en = entered d.entries (home d) F.tidy li set_t (slot_at F p lp i li ∙ ap slot_of free-i) tentative_is gone

  FT : Fit d s_t
  FT =
      entry_fit F.frame (memory_same F.frame w) p i lp (entry c TENTATIVE w x) r_t li
      (entry_of p i c TENTATIVE w x lp li nc (λ z. omega arith) lw) en.0

  at_i : entry_at s_t p i ≡ entry c TENTATIVE w x
  at_i =
      copy_here s.entries F.frame.entries.long p i (omega (arith, F.frame.size.processors)) (omega (arith, F.frame.size.entries))
      (entry c TENTATIVE w x) r_t

  got_bare : Got d p w c x i s s_t
  got_bare = record {
    fit = FT;
    at_w = en.1;
    back = bare;
    back_is = inl refl;
    here = en.2;
    memory_same = refl;
    tag = ap (λ (e : Entry). e.tag) at_i;
    word = ap (λ (e : Entry). e.word) at_i;
  }

  module _ (b : ℕ) (lb : b < d.entries) (apart : b ≢ i) (free-b : entry_at s p b ≡ no_entry) where
    abbrev s_b : Caches
    s_b = with_entry s_t p b (entry c BACKUP w x)

    r_b : InRange (entry c BACKUP w x)
    r_b = entry_range c BACKUP w x lc (omega arith) lw F.frame.size.words lx

    set_b : SlotSet d.entries (home d) p b (slotBackup (state_of c) w x) w (decoded d s_t) (decoded d s_b)
    set_b = set_slot FT.frame (memory_same FT.frame w) p b lp (entry c BACKUP w x) r_b lb

    lone : (j : ℕ) → j < d.entries → back_on w ((decoded d s_t).slot p j) ≡ false
    lone j l = elim (ℕ_discrete j i) [
      | yes e ↦ rw (e, set_t.here)
      | no n ↦ rw (set_t.else j n) (none_backs d.entries (home d) ((decoded d s).slot p) ((decoded d s).line p) (F.tidy p) w gone j l)
    ]

    bu : AllTidy d.entries (home d) (decoded d s_b) × OnlyWord p w (seen d s_t) (seen d s_b)
        × ((seen d s_b).copy w p ≡ tentative (state_of c) x (backup (state_of c) x) false)
    bu =
        backs_up d.entries (home d) FT.tidy lb set_b (set_t.else b apart ∙ (slot_at F p lp b lb ∙ ap slot_of free-b)) refl i li
        (set_t.here ∙ tentative_is) lone

    still_i : entry_at s_b p i ≡ entry c TENTATIVE w x
    still_i =
        copy_else s_t.entries FT.frame.entries.long p b (omega (arith, F.frame.size.processors)) (omega (arith, F.frame.size.entries))
        (entry c BACKUP w x) r_b p i (omega (arith, F.frame.size.processors)) (omega (arith, F.frame.size.entries)) (inr (λ z. apart (sym z))) ∙
        at_i

    got_both : Got d p w c x i s s_b
    got_both = record {
      fit =
          entry_fit FT.frame (memory_same FT.frame w) p b lp (entry c BACKUP w x) r_b lb
          (entry_of p b c BACKUP w x lp lb nc (λ z. omega arith) lw) bu.0;
      at_w = at_trans en.1 bu.1;
      back = backup (state_of c) x;
      back_is = inr refl;
      here = bu.2;
      memory_same = refl;
      tag = ap (λ (e : Entry). e.tag) still_i;
      word = ap (λ (e : Entry). e.word) still_i;
    }

  -- where b is a slot, or none
  pub got : (b : ℕ) → (b < d.entries → (b ≢ i) × (entry_at s p b ≡ no_entry))
      → Got d p w c x i s
      (caches s.memory s.lines (fill_backup d p b (entry c BACKUP w x) (with_copy s.entries p i (entry c TENTATIVE w x))) s.flags)
  unfolding fill_backup
  got b f = by (ltb b d.entries) refl
    where
      by : (y : Bool) → ltb b d.entries ≡ y
          → Got d p w c x i s
          (caches s.memory s.lines
          (pick y (with_copy (with_copy s.entries p i (entry c TENTATIVE w x)) p b (entry c BACKUP w x))
          (with_copy s.entries p i (entry c TENTATIVE w x)))
          s.flags)
      by true h = let l = ltb-true b d.entries h in got_both b l (f l).0 (f l).1
      by false h = got_bare

-- the request and the state that it leaves, by kind
abbrev pub cycle : Kind → ℕ
cycle reading = T_READ
cycle owning = T_RFO

abbrev pub filling : Kind → ℕ
filling reading = VALID
filling owning = RESERVED

is_cycle : (k : Kind) → Cycle k (cycle k)
is_cycle reading = is-T-READ
is_cycle owning = is-T-RFO

filling_is : (k : Kind) → state_of (filling k) ≡ granted k
filling_is reading = refl
filling_is owning = refl

filling_code : (k : Kind) → (filling k < 4) × (filling k ≢ INVALID) × (eqb (filling k) DIRTY ≡ false)
filling_code reading = (omega arith, (λ z. omega arith), refl)
filling_code owning = (omega arith, (λ z. omega arith), refl)

-- the request of a miss, slot i being free, and slot b if there is one
module _ {d : Dims} (a : Access) (p : ℕ) (lp : p < d.processors) (w : ℕ) (lw : w < d.words) (v : ℕ) (lv : v < value_end) {S S₀ Sf : View}
    (O : Opened p w S S₀)
    {s : Caches} (F : Fit d s) (was : S₀.copy w p ≡ none) (fr : Freed p S₀ Sf) (fr' : Freed p Sf (seen d s))
    (i : ℕ) (li : i < d.entries) (free-i : entry_at s p i ≡ no_entry) (b : ℕ) (free-b : b < d.entries → (b ≢ i) × (entry_at s p b ≡ no_entry)) where
  -- the machine's text, by kind
  filled_to : ℕ → Caches → Caches
  filled_to x t =
      caches t.memory t.lines
      (fill_backup d p b (entry (filling (kind a)) BACKUP w x) (with_copy t.entries p i (entry (filling (kind a)) TENTATIVE w x))) t.flags

  form : (n : ℕ) → request d (number a) p i b w v n s
      ≡ pick (refuses d p w (cycle (kind a)) s.entries) (busy d p (cycle (kind a)) n s)
      (finish (number a) p i v (asked (cycle (kind a)) n 0) (filled_to (word_at (snoop d p w (cycle (kind a)) s) w) (snoop d p w (cycle (kind a)) s)))
  unfolding request fill filled_to
  form n = by a
    where
      by : (a : Access) → request d (number a) p i b w v n s
          ≡ pick (refuses d p w (cycle (kind a)) s.entries) (busy d p (cycle (kind a)) n s)
          (finish (number a) p i v (asked (cycle (kind a)) n 0)
          (caches (snoop d p w (cycle (kind a)) s).memory (snoop d p w (cycle (kind a)) s).lines
          (fill_backup d p b (entry (filling (kind a)) BACKUP w (word_at (snoop d p w (cycle (kind a)) s) w))
          (with_copy (snoop d p w (cycle (kind a)) s).entries p i
          (entry (filling (kind a)) TENTATIVE w (word_at (snoop d p w (cycle (kind a)) s) w))))
          (snoop d p w (cycle (kind a)) s).flags))
      by lt = refl
      by ltx = refl
      by st = refl

  pub request_does : (n : ℕ) → Does d S (by_access p w v) (request d (number a) p i b w v n s)
  unfolding filled_to
  request_does n = subst⁻¹ (Does d S (by_access p w v)) (form n) (by (refuses d p w c s.entries) refl)
    where
      c : ℕ
      c = cycle (kind a)

      t : Caches
      t = snoop d p w c s

      x : ℕ
      x = word_at t w

      by : (y : Bool) → refuses d p w c s.entries ≡ y
          → Does d S (by_access p w v) (pick y (busy d p c n s) (finish (number a) p i v (asked c n 0) (filled_to x t)))
      by true h =
          aborted_does a p lp w v lv O F (asked c n 1)
          (no_grant was fr fr' (refused_busy F p w (kind a) c (is_cycle (kind a)) h) (rollback_is F p lp))
      by false h =
          let g = granted_served F (kind a) c (is_cycle (kind a)) p w lp h in
          let o = g.0.own in
          let z = F.frame.size in
          let f = filling_code (kind a) in
          let gone = own_copy z p o w ∙ freed_none fr' w (freed_none fr w was) in
          let q = got g.0.fit p lp w lw (filling (kind a)) x f.0 f.1 f.2 (g.0.fit.frame.memory.small w) gone i li
          (o.entries i (omega arith) ∙ free-i) b (λ l. ((free-b l).0, o.entries b (omega arith) ∙ (free-b l).1)) in
          finish_does a p lp w v lv O q.fit i li q.tag q.word (asked c n 0)
          (misses was fr fr' g.1 q.at_w (backed q.back q.back_is)
          (q.here ∙ ap (λ (r : _). tentative r x q.back false) (filling_is (kind a)))
          (ap (λ (m : List ℕ). get_or m w 0) q.memory_same))
        where
          backed : (y : Back) → (y ≡ bare) ⊎ (y ≡ backup (state_of (filling (kind a))) x) → (y ≡ bare) ⊎ (y ≡ backup (granted (kind a)) x)
          backed y (inl e) = inl e
          backed y (inr e) = inr (e ∙ ap (λ (r : _). backup r x) (filling_is (kind a)))

-- the whole of a miss
module _ {d : Dims} (a : Access) (p : ℕ) (lp : p < d.processors) (w : ℕ) (lw : w < d.words) (v : ℕ) (lv : v < value_end) {S : View} {s : Caches}
    (F : Fit d s)
    (O : Opened p w S (seen d s)) (was : (seen d s).copy w p ≡ none) where
  at_slot : (i : ℕ) → i < d.entries → (entry_at s p i).tag ≢ TENTATIVE → (n : ℕ) → Does d S (by_access p w v) (miss_at d (number a) p i w v n s)
  unfolding miss_at clear_backup
  at_slot i li nt n = by (ltb b d.entries) refl
    where
      t : Caches
      t = clear_entry s p i

      E₁ : Emptied d p i s t
      E₁ = clear_emptied F p lp i li nt

      b : ℕ
      b = free_slot t.entries p d.entries i

      by : (y : Bool) → ltb b d.entries ≡ y
          → Does d S (by_access p w v)
          (request d (number a) p i b w v
          (n + writes (entry_at s p i) + (pick y (counted (writes (entry_at t p b)) (clear_entry t p b)) (counted 0 t)).writes)
          (pick y (counted (writes (entry_at t p b)) (clear_entry t p b)) (counted 0 t)).after)
      by true h =
          let l = ltb-true b d.entries h in
          let f = free_slot_usable t p d.entries i l in
          let E₂ = clear_emptied E₁.fit p lp b l f.1 in
          request_does a p lp w lw v lv O E₂.fit was E₁.freed E₂.freed i li
          (E₂.else i (omega (arith, F.frame.size.entries)) (λ z. f.0 (sym z)) ∙ E₁.here) b (λ l'. (f.0, E₂.here))
          (n + writes (entry_at s p i) + writes (entry_at t p b))
      by false h =
          request_does a p lp w lw v lv O E₁.fit was E₁.freed (empty same_refl) i li E₁.here b
          (λ l'. absurd (omega (arith, ltb-false b d.entries h))) (n + writes (entry_at s p i) + 0)

  pub miss_does : (n : ℕ) → Does d S (by_access p w v) (miss d (number a) p w v n s)
  unfolding miss
  miss_does n = by (ltb i d.entries) refl
    where
      i : ℕ
      i = free_slot s.entries p d.entries d.entries

      by : (y : Bool) → ltb i d.entries ≡ y
          → Does d S (by_access p w v) (pick y (miss_at d (number a) p i w v n s) (gives Aborted (quiet n) (rollback d p s)))
      by true h = let l = ltb-true i d.entries h in at_slot i l (free_slot_usable s p d.entries d.entries l).1 n
      by false h = aborted_does a p lp w v lv O F (quiet n) (no_room was (rollback_is F p lp))
