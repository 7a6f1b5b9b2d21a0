-- A machine with slots and lines, and what its elementary changes are on the view. S and S' are compared place by place, so that
-- any layout of the state can be read as a `State`.
use mathlib.Core.Path.{◌≡◌, refl, sym, ◌∙◌, fun_ext}
use mathlib.Core.Logic.{◌≢◌, inl}
use mathlib.Core.Bool.{Bool, true, false}
use Prim.Native.Nat.{ℕ, ◌<◌}
use native.Mathlib.Decide.{ℕ_discrete}
use Rattle.theory.specs.View.{LineState, Back, bare, backup, Copy, none, regular, normal, tentative, wrote, rolled_copy, committed_copy, View}
use Rattle.theory.specs.Change.{OnlyWord, OnlyProcessor, same, Same}
use Rattle.theory.proofs.Cache.{Slot, vacant, slot_normal, slotBackup, slot_tentative, Line, blank, filled}
use Rattle.theory.proofs.Cache.{main_on, back_on, tentative_on, slot_copy, Backs, look, Tidy, look_calm, tidy_shrink}
use Rattle.theory.proofs.AllSlots.{slot_rollback, slot_commit, tidy_committed, look_committed, tidy_rolled, look_rolled}
use Rattle.theory.proofs.Slots.{WordIs, look_normal, look_else, tidy_out, look_out, tidy_backout}
use Rattle.theory.proofs.Slots.{look_backout, tidy_turn, look_turn, tidy_in, look_in, tidy_back, look_back_lem}
use Rattle.theory.proofs.Lines.{LineIs, tidy_line, line_else, look_blank, look_filled}
use Rattle.theory.specs.Protocol

pub record State : Type 0 where
  pub memory : ℕ → ℕ
  pub slot : ℕ → ℕ → Slot  -- processor, slot
  pub line : ℕ → ℕ → Line  -- processor, line
  pub active : ℕ → Bool
  pub status : ℕ → Bool

module _ (E : ℕ) (home : ℕ → ℕ) where
  abbrev pub view : State → View
  view S = record { memory = S.memory; copy = λ w p. look E home (S.slot p) (S.line p) w; active = S.active; status = S.status }

  abbrev pub AllTidy : State → Type 0
  AllTidy S = (p : ℕ) → Tidy E home (S.slot p) (S.line p)

  -- the caches of every processor but p stay
  pub record Local (p : ℕ) (S S' : State) : Type 0 where
    pub slots : (q i : ℕ) → q ≢ p → i < E → S'.slot q i ≡ S.slot q i
    pub lines : (q h : ℕ) → q ≢ p → S'.line q h ≡ S.line q h

  module _ {S S' : State} (T : AllTidy S) {p : ℕ} (L : Local p S S') where
    pub tidy_local : Tidy E home (S'.slot p) (S'.line p) → AllTidy S'
    tidy_local t q = elim (ℕ_discrete q p) [ yes e ↦ rw e t | no n ↦ other q n ]
      where
        other : (q : ℕ) → q ≢ p → Tidy E home (S'.slot q) (S'.line q)
        other q n = tidy_shrink E home (S.slot q) (S'.slot q) (S.line q) (S'.line q) (T q)
            (λ i w l h. rw (L.slots q i n l) at h) (λ i w l h. rw (L.slots q i n l) at h) (λ i j w l l' h t. rw (L.slots q i n l) t)
            (λ w h. rw (L.lines q (home w) n) h)

    pub look_local : AllTidy S' → (w q : ℕ) → q ≢ p → (view S').copy w q ≡ (view S).copy w q
    look_local T' w q n =
        look_calm E home (S.slot q) (S'.slot q) (S.line q) (S'.line q) w (inl (L.lines q (home w) n)) (λ i l. inl (L.slots q i n l)) (T' q)

    -- a change of p's cache as far as word w goes
    pub at_local : AllTidy S' → (w : ℕ)
        → ((u : ℕ) → u ≢ w → S'.memory u ≡ S.memory u)
        → ((u : ℕ) → u ≢ w → (view S').copy u p ≡ (view S).copy u p)
        → ((q : ℕ) → S'.active q ≡ S.active q)
        → ((q : ℕ) → S'.status q ≡ S.status q)
        → OnlyWord p w (view S) (view S')
    at_local T' w m c a s = record { memory_else = m; word_else = we; proc_else = λ q n. look_local T' w q n; active_same = a; status_same = s }
      where
        we : (u : ℕ) → u ≢ w → (q : ℕ) → (view S').copy u q ≡ (view S).copy u q
        we u n q = elim (ℕ_discrete q p) [ yes e ↦ rw e (c u n) | no i ↦ look_local T' u q i ]

  -- slot i of p becomes y, and w's memory may change; nothing else
  pub record SlotSet (p i : ℕ) (y : Slot) (w : ℕ) (S S' : State) : Type 0 where
    pub here : S'.slot p i ≡ y
    pub else : (j : ℕ) → j ≢ i → S'.slot p j ≡ S.slot p j
    pub slots : (q j : ℕ) → q ≢ p → j < E → S'.slot q j ≡ S.slot q j
    pub lines : (q h : ℕ) → S'.line q h ≡ S.line q h
    pub memories : (u : ℕ) → u ≢ w → S'.memory u ≡ S.memory u
    pub actives : (q : ℕ) → S'.active q ≡ S.active q
    pub statuses : (q : ℕ) → S'.status q ≡ S.status q

  pub slot_local : {p i : ℕ} {y : Slot} {w : ℕ} {S S' : State} → SlotSet p i y w S S' → Local p S S'
  slot_local c = record { slots = c.slots; lines = λ q h n. c.lines q h }

  module _ {S S' : State} (T : AllTidy S) {p i w : ℕ} {y : Slot} (l : i < E) (c : SlotSet p i y w S S') where
    pub same_lines : S'.line p ≡ S.line p
    same_lines = fun_ext (λ h. c.lines p h)

    pub at_slot : AllTidy S' → {x : Slot} → S.slot p i ≡ x → WordIs w x → WordIs w y → OnlyWord p w (view S) (view S')
    at_slot T' {x} was xw yw = at_local T (slot_local c) T' w c.memories
        (λ u n. rw same_lines
        (look_else E home (S.slot p) (S'.slot p) (S.line p) (T p) w i l x y was c.here c.else xw yw (rw same_lines at (T' p)) u n))
        c.actives c.statuses

    -- a slot is set to what it was
    pub unmoved : S.slot p i ≡ y → S'.memory w ≡ S.memory w → AllTidy S' × Same (view S) (view S')
    unmoved was m = (
      T',
      record {
        memory_same = λ u. elim (ℕ_discrete u w) [ yes e ↦ rw e m | no n ↦ c.memories u n ];
        copy_same = λ u q. elim (ℕ_discrete q p) [
          | yes e ↦ rw e
              (look_calm E home (S.slot p) (S'.slot p) (S.line p) (S'.line p) u (inl (c.lines p (home u))) (λ j h. inl (all j)) (T' p))
          | no
              n ↦ look_local T (slot_local c) T' u q n
        ];
        active_same = c.actives;
        status_same = c.statuses;
      },
    )
      where
        all : (j : ℕ) → S'.slot p j ≡ S.slot p j
        all j = elim (ℕ_discrete j i) [ yes e ↦ rw e (c.here ∙ sym was) | no n ↦ c.else j n ]

        T' : AllTidy S'
        T' = tidy_local T (slot_local c) (tidy_shrink E home (S.slot p) (S'.slot p) (S.line p) (S'.line p) (T p)
            (λ j u h k. rw (all j) at k) (λ j u h k. rw (all j) at k) (λ j j' u h h' k t. rw (all j) t) (λ u h. rw (c.lines p (home u)) h))

    -- a NORMAL entry is freed
    pub normal_out : {s : LineState} {u d : ℕ} → y ≡ vacant → w ≡ u → S.slot p i ≡ slot_normal s u d → S'.memory u ≡ wrote s d (S.memory u)
        → AllTidy S' × Protocol.Freed p (view S) (view S')
    normal_out {s} {u} {d} ey ew was m = (
      T',
      Protocol.normal_freed u (rw ew at (at_slot T' was (sym ew) (rw ey tt))) (look_normal E home (S.slot p) (S.line p) (T p) i l was)
          (rw same_lines (look_out E home (S.slot p) (S'.slot p) (S.line p) (T p) i l c.else was (c.here ∙ ey))) m,
    )
      where
        T' : AllTidy S'
        T' = tidy_local T (slot_local c) (rw same_lines (tidy_out E home (S.slot p) (S'.slot p) (S.line p) (T p) i l c.else was (c.here ∙ ey)))

    -- the same, for a word that is named
    pub normal_gone : {s : LineState} {d : ℕ} → y ≡ vacant → S.slot p i ≡ slot_normal s w d
        → AllTidy S' × OnlyWord p w (view S) (view S') × ((view S).copy w p ≡ normal s d) × ((view S').copy w p ≡ none)
    normal_gone {s} {d} ey was = (
      T',
      at_slot T' was refl (rw ey tt),
      look_normal E home (S.slot p) (S.line p) (T p) i l was,
      rw same_lines (look_out E home (S.slot p) (S'.slot p) (S.line p) (T p) i l c.else was (c.here ∙ ey)),
    )
      where
        T' : AllTidy S'
        T' = tidy_local T (slot_local c) (rw same_lines (tidy_out E home (S.slot p) (S'.slot p) (S.line p) (T p) i l c.else was (c.here ∙ ey)))

    -- a backup is freed
    pub backup_out : {s : LineState} {u d : ℕ} → y ≡ vacant → w ≡ u → S.slot p i ≡ slotBackup s u d → S'.memory u ≡ wrote s d (S.memory u)
        → AllTidy S' × Protocol.Freed p (view S) (view S')
    backup_out {s} {u} {d} ey ew was m =
        let b = look_backout E home (S.slot p) (S'.slot p) (S.line p) (T p) i l c.else was (c.here ∙ ey) in
        (T', Protocol.backup_freed u (rw ew at (at_slot T' was (sym ew) (rw ey tt))) b.3 (rw same_lines b.4) m)
      where
        T' : AllTidy S'
        T' = tidy_local T (slot_local c)
            (rw same_lines (tidy_backout E home (S.slot p) (S'.slot p) (S.line p) (T p) i l c.else was (c.here ∙ ey)))

    -- w's own entry changes and stays w's own
    pub turned : {x : Slot} → S.slot p i ≡ x → WordIs w x → WordIs w y → main_on w x ≡ true → main_on w y ≡ true
        → (tentative_on w x ≡ true → tentative_on w y ≡ true)
        → (b : Back) → Backs E home (S.slot p) (S.line p) w b
        → AllTidy S' × OnlyWord p w (view S) (view S') × ((view S).copy w p ≡ slot_copy x b) × ((view S').copy w p ≡ slot_copy y b)
    turned {x} was xw yw mx my tk b bk =
        let k = look_turn E home (S.slot p) (S'.slot p) (S.line p) (T p) i l c.else w was c.here xw yw mx my tk b bk in
        (T', at_slot T' was xw yw, k.0, rw same_lines k.1)
      where
        T' : AllTidy S'
        T' = tidy_local T (slot_local c)
            (rw same_lines (tidy_turn E home (S.slot p) (S'.slot p) (S.line p) (T p) i l c.else w was c.here xw yw mx my tk))

    -- a free slot takes a tentative entry
    pub entered : {s : LineState} {d : ℕ} {t : Bool} → S.slot p i ≡ vacant → y ≡ slot_tentative s w d t → (view S).copy w p ≡ none
        → AllTidy S' × OnlyWord p w (view S) (view S') × ((view S').copy w p ≡ tentative s d bare t)
    entered was ey free = (
      T',
      at_slot T' was tt (rw ey refl),
      rw same_lines
          (look_in E home (S.slot p) (S'.slot p) (S.line p) (T p) i l c.else was (c.here ∙ ey) free),
    )
      where
        T' : AllTidy S'
        T' = tidy_local T (slot_local c)
            (rw same_lines (tidy_in E home (S.slot p) (S'.slot p) (S.line p) (T p) i l c.else was (c.here ∙ ey) free))

    -- a free slot takes a backup
    pub backs_up : {r s : LineState} {e d : ℕ} {t : Bool} → S.slot p i ≡ vacant → y ≡ slotBackup r w e → (i' : ℕ) → i' < E
        → S.slot p i' ≡ slot_tentative s w d t
        → ((j : ℕ) → j < E → back_on w (S.slot p j) ≡ false)
        → AllTidy S' × OnlyWord p w (view S) (view S') × ((view S').copy w p ≡ tentative s d (backup r e) t)
    backs_up was ey i' l' main al = (
      T',
      at_slot T' was tt (rw ey refl),
      rw same_lines
          (look_back_lem E home (S.slot p) (S'.slot p) (S.line p) (T p) i l c.else was (c.here ∙ ey) i' l' main al),
    )
      where
        T' : AllTidy S'
        T' = tidy_local T (slot_local c)
            (rw same_lines (tidy_back E home (S.slot p) (S'.slot p) (S.line p) (T p) i l c.else was (c.here ∙ ey) i' l' main al))

  -- every slot of p by f, and p's flags
  pub record SlotMap (f : Slot → Slot) (p : ℕ) (S S' : State) : Type 0 where
    pub here : (i : ℕ) → i < E → S'.slot p i ≡ f (S.slot p i)
    pub slots : (q j : ℕ) → q ≢ p → j < E → S'.slot q j ≡ S.slot q j
    pub lines : (q h : ℕ) → S'.line q h ≡ S.line q h
    pub memories : (u : ℕ) → S'.memory u ≡ S.memory u
    pub actives : (q : ℕ) → q ≢ p → S'.active q ≡ S.active q
    pub statuses : (q : ℕ) → q ≢ p → S'.status q ≡ S.status q

  map_local : {f : Slot → Slot} {p : ℕ} {S S' : State} → SlotMap f p S S' → Local p S S'
  map_local c = record { slots = c.slots; lines = λ q h n. c.lines q h }

  map_cache : {f : Slot → Slot} (g : Copy → Copy) {p : ℕ} {S S' : State} → AllTidy S → AllTidy S' → SlotMap f p S S'
      → ((w : ℕ) → (view S').copy w p ≡ g ((view S).copy w p)) → OnlyProcessor g p (view S) (view S')
  map_cache g T T' c h =
      record {
        memory_same = c.memories;
        here = h;
        else = λ u q n. look_local T (map_local c) T' u q n;
        active_else = c.actives;
        status_else =
            c.statuses;
      }

  pub rolled_back_lem : {S S' : State} (p : ℕ) → AllTidy S → SlotMap slot_rollback p S S' → S'.active p ≡ S.active p → S'.status p ≡ false
      → AllTidy S' × Protocol.RolledBack p (view S) (view S')
  rolled_back_lem {S} {S'} p T c a s = (
    T',
    record {
      cache = map_cache rolled_copy T T' c
          (look_rolled E home (S.slot p) (S'.slot p) (S.line p) (S'.line p) (T p) (λ h. c.lines p h) c.here);
      status = s;
      active = a;
    },
  )
    where
      T' : AllTidy S'
      T' = tidy_local T (map_local c) (tidy_rolled E home (S.slot p) (S'.slot p) (S.line p) (S'.line p) (T p) (λ h. c.lines p h) c.here)

  pub slots_committed : {S S' : State} (p : ℕ) → AllTidy S → SlotMap slot_commit p S S' → AllTidy S' × OnlyProcessor committed_copy p (view S) (view S')
  slots_committed {S} {S'} p T c =
      (T', map_cache committed_copy T T' c (look_committed E home (S.slot p) (S'.slot p) (S.line p) (S'.line p) (T p) (λ h. c.lines p h) c.here))
    where
      T' : AllTidy S'
      T' = tidy_local T (map_local c) (tidy_committed E home (S.slot p) (S'.slot p) (S.line p) (S'.line p) (T p) (λ h. c.lines p h) c.here)

  -- only p's flags
  pub flagged : {S S' : State} (p : ℕ) → AllTidy S → SlotMap (λ x. x) p S S' → AllTidy S' × OnlyProcessor same p (view S) (view S')
  flagged {S} {S'} p T c = (
    T',
    map_cache same T T' c
        (λ w. look_calm E home (S.slot p) (S'.slot p) (S.line p) (S'.line p) w (inl (c.lines p (home w))) (λ i l. inl (c.here i l)) (T' p)),
  )
    where
      T' : AllTidy S'
      T' = tidy_local T (map_local c) (tidy_shrink E home (S.slot p) (S'.slot p) (S.line p) (S'.line p) (T p)
          (λ i w l h. rw (c.here i l) at h) (λ i w l h. rw (c.here i l) at h) (λ i j w l l' h t. rw (c.here i l) t)
          (λ w h. rw (c.lines p (home w)) h))

  -- line h of p becomes y, and w's memory may change
  pub record LineSet (p h : ℕ) (y : Line) (w : ℕ) (S S' : State) : Type 0 where
    pub here : S'.line p h ≡ y
    pub else : (g : ℕ) → g ≢ h → S'.line p g ≡ S.line p g
    pub lines : (q g : ℕ) → q ≢ p → S'.line q g ≡ S.line q g
    pub slots : (q j : ℕ) → S'.slot q j ≡ S.slot q j
    pub memories : (u : ℕ) → u ≢ w → S'.memory u ≡ S.memory u
    pub actives : (q : ℕ) → S'.active q ≡ S.active q
    pub statuses : (q : ℕ) → S'.status q ≡ S.status q

  module _ {S S' : State} (T : AllTidy S) {p h w : ℕ} {y : Line} (home-w : home w ≡ h) (c : LineSet p h y w S S') where
    line_local : Local p S S'
    line_local = record { slots = λ q i n l. c.slots q i; lines = c.lines }

    same_slots : S'.slot p ≡ S.slot p
    same_slots = fun_ext (λ j. c.slots p j)

    -- the line has w or nothing, before and after; no slot has w
    pub lined : {x : Line} → S.line p h ≡ x → LineIs w x → LineIs w y → ((i : ℕ) → i < E → main_on w (S.slot p i) ≡ false)
        → AllTidy S' × OnlyWord p w (view S) (view S')
    lined {x} was xw yw o = (
      T',
      at_local T line_local T' w c.memories
          (λ u n. rw same_slots (line_else E home (S.slot p) (S.line p) (S'.line p) (T p) w h home-w c.else was c.here xw yw o u n))
          c.actives c.statuses,
    )
      where
        T' : AllTidy S'
        T' = tidy_local T line_local
            (rw same_slots (tidy_line E home (S.slot p) (S.line p) (S'.line p) (T p) w h home-w c.else was c.here xw yw o))

    pub line_out : {x : Line} → S.line p h ≡ x → LineIs w x → y ≡ blank → ((i : ℕ) → i < E → main_on w (S.slot p i) ≡ false)
        → (view S').copy w p ≡ none
    line_out was xw ey o = rw same_slots (look_blank E home (S.slot p) (S.line p) (S'.line p) (T p) w h home-w c.else o was xw (c.here ∙ ey))

    pub line_in : {x : Line} {s : LineState} {d : ℕ} → S.line p h ≡ x → LineIs w x → y ≡ filled s w d
        → ((i : ℕ) → i < E → main_on w (S.slot p i) ≡ false) → (view S').copy w p ≡ regular s d
    line_in was xw ey o = rw same_slots (look_filled E home (S.slot p) (S.line p) (S'.line p) (T p) w h home-w c.else o was xw (c.here ∙ ey))
