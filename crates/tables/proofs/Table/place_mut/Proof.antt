-- `place_mut` lends one place of the table, and the whole follows it, for every T. Assumes `Logic`.
use Rattle.std.proofs.Common.{◌≡◌, ℕ, ◌+◌, ◌*◌, ◌^◌, ◌<◌, ◌≤◌, List, [], ◌∷◌, length, get_or, set, None, Option, sym, refl, ◌∙◌, mul-le-mul_right, arith, length-set, w64, MutBor}
use seplogic.Ra.Ura.{Ura}
use base.Fraction.{full_share}
use base.Logic.{SProp, ent, sep, via, fst∗, snd∗}
use base.Fml.{Lft, GName, Share, ftrue, flft}
use mir.Syntax.{Args, Fn, named, a_type}
use mir.MapTy.{inst_fn}
use mir.Val.{Val, vint, vptr}
use prog.Memory.{Memory, size, align, up}
use prog.Routine.{Routine}
use prog.Wp.{Calls, Loops, WpFn, Tables}
use types.Logic.{Logic, sem}
use contract.Lifetimes.{AllOutlive}
use contract.Monad.{Fun, fact, fact_use}
use contract.Running.{tables, tables_of}
use sound.WpLaws.{WpFn-mono}
use types.Kit.{Item, mean, ‵, raw, ◌⊛◌, some, later, await, ◌$◌, ◌∵◌, !, qed, by, move, keep, use1, use2, drop, split, split3, join, group, pick, rewrite, fsplit, fsplit3, fjoin, feq_l, feq_i, suffices, frame, done}
use types.Mut.{open_ref}
use types.Run.{stop, fld, addr, bin, size_lit, returns, enter}
use types.ByLocal.{alloc_all, pass_all, free_all, look_at, get, through, sets}
use types.Share.{parts, arr_parts}
use denote.Array.{Array}
use denote.ArrayMemory.{Array-apart, Array-whole}
use denote.Builtin.{RefMutOf, usize}
use denote.Exit.{yes, no}
use denote.Follow.{follows, Part, lends_Part}
use denote.Index.{place, place_is, others, takes, puts}
use denote.Memory.{part_at, mem, shares}
use denote.Param.{layout, layouts, param}
use denote.Param.Laws.{Laws, param_laws}
use denote.Plain.{uint_vals, uint_Tells}
use denote.RattleType.{RattleType, owns}
use denote.Ref.{MutRef, mut_vals, mut_Tells}
use denote.Signature.{plain}
use denote.Steps.{nothing}
use denote.Triple.Clauses.{Clauses, Ended, closing}
use denote.Triple.Entry.{on_entry}
use denote.Triple.Spec.{Meets, triple_of}
use denote.Triple.Table.{entered}
use denote.Triple.Walked.{says, Stays, stay_dropped, walk_of, ends_at, walked, Goes-dropped, Goes-spent_ref, walk_Meets}
use borrow.Struct.Lend.{kept_record, record_fill, record_apart}
use Rattle.std.specs.contracts.option.Option.{the_row as option_row}
use Rattle.tables.specs.declared.Table.{Table}
use Rattle.tables.specs.contracts.Table as S
use Rattle.tables.specs.contracts.Table.place_mut as F
use Rattle.tables.specs.contracts.Table.place_mut.Key.{name as #self}
use Rattle.tables.proofs.Table.TheLaws as laws
use Rattle.tables.proofs.Table.place_mut.Statement as stated
use Rattle.tables.proofs.Table.place_mut.Code as code

-- of three facts that are asked, the last two are used
asks : {M : Type 1} (𝓤 : Ura M) (φ ψ χ : Type 0) (P : SProp 𝓤) {Q : SProp 𝓤} → (ψ → χ → ent 𝓤 P Q) → ent 𝓤 (sep 𝓤 P (sep 𝓤 (fact 𝓤 φ) (sep 𝓤 (fact 𝓤 ψ) (fact 𝓤 χ)))) Q
asks 𝓤 φ ψ χ P k =
    let B : SProp 𝓤 = sep 𝓤 (fact 𝓤 ψ) (fact 𝓤 χ) in
    let all = via 𝓤 (sep 𝓤 (fact 𝓤 φ) B) (snd∗ 𝓤 P (sep 𝓤 (fact 𝓤 φ) B)) (snd∗ 𝓤 (fact 𝓤 φ) B) in
    fact_use 𝓤 ψ (via 𝓤 B all (fst∗ 𝓤 (fact 𝓤 ψ) (fact 𝓤 χ))) (λ y. fact_use 𝓤 χ (via 𝓤 B all (snd∗ 𝓤 (fact 𝓤 ψ) (fact 𝓤 χ))) (λ z. via 𝓤 P (fst∗ 𝓤 P (sep 𝓤 (fact 𝓤 φ) B)) (k y z)))

module _ (X : RattleType) where
  abbrev args : Args
  args = layouts (a_type ∷ []) (X, tt)

  abbrev fn' : Fn
  fn' = inst_fn args code.function

  abbrev T : RattleType
  T = param 0 X

  abbrev R : RattleType
  R = option_row T

  abbrev Whole : RattleType
  Whole = S.the_row T

  abbrev s : ℕ
  s = size (layout R)

  -- where the array begins in the struct
  abbrev at : ℕ
  at = up (align (layout R)) 0

  abbrev ended : Ended
  ended = F.ended X

  abbrev stayed : Stays ended.signature.params ended.kept
  stayed = (stay_dropped (RefMutOf (0 ∷ []) tt (plain (λ _. Whole)) (λ _. tt)) no, (stay_dropped (plain (λ _. usize)) yes, tt))

module _ (X : RattleType) (L : Laws X) {M : Type 1} {𝓤 : Ura M} (𝓛 : Logic 𝓤) (b o : ℕ) (h : Table X.Denot) (i : ℕ) where
  abbrev xs : List (Option X.Denot)
  xs = h.rows

  abbrev with : Option X.Denot → Table X.Denot
  with w = record { rows = set xs i w }

  -- the struct without its array
  abbrev Kept : Item 𝓤
  Kept = kept_record (S.the_type (T X)) (laws.the_loose (T X) (param_laws 0 X L)) 0 (at X) (S.struct (T X)).as_values (S.struct (T X)).Ghost (S.struct (T X)).make (λ v. tt) (λ x. refl) (λ v g. refl) (λ x. x) M 𝓤 𝓛 h b o

  abbrev Rest : SProp 𝓤
  Rest = sep 𝓤 (sem 𝓛 (others (shares (R X)) full_share xs i b (o + at X))) (mean 𝓛 Kept)

  abbrev cell : ℕ
  cell = i * s X + (o + at X)

  opened : ent 𝓤 (sem 𝓛 (part_at (Whole X) full_share h b o)) (sep 𝓤 (sem 𝓛 (part_at (Array (R X) 16) full_share xs b (o + at X))) (mean 𝓛 Kept))
  opened = record_apart (S.the_type (T X)) (laws.the_loose (T X) (param_laws 0 X L)) 0 (at X) (S.struct (T X)).as_values (S.struct (T X)).Ghost (S.struct (T X)).make (λ v. tt) (λ x. refl) (λ v g. refl) (λ x. x) 𝓛 refl refl h b o

  back : i < length xs → length xs ≡ 16 → (w : Option X.Denot) → ent 𝓤 (sep 𝓤 (sem 𝓛 ((mem (R X)).own_at w b cell)) Rest) (sem 𝓛 ((mem (Whole X)).own_at (with w) b o))
  back li ln w =
      qed 𝓛 (‵ (part_at (R X) full_share w b cell) ∷ ‵ (others (shares (R X)) full_share xs i b (o + at X)) ∷ Kept ∷ []) ∵
      rewrite ! 0 (λ (p : ℕ). ‵ (part_at (R X) full_share w b p)) (sym (place_is (s X) (o + at X) i)) refl $
      use2 𝓛 (‵ (parts (mem (R X)) (shares (R X)) full_share (set xs i w) b (o + at X))) (puts (shares (R X)) full_share 𝓛 xs i w b (o + at X) li) $
      feq_i ! ℕ (length (set xs i w)) 16 (length-set xs i w ∙ ln) $ fjoin ! $
      use1 𝓛 (‵ (part_at (Array (R X) 16) full_share (set xs i w) b (o + at X))) (Array-whole 𝓛 (R X) full_share 16 (set xs i w) b (o + at X)) $
      by ! (record_fill (S.the_type (T X)) (laws.the_loose (T X) (param_laws 0 X L)) 0 (at X) (S.struct (T X)).as_values (S.struct (T X)).Ghost (S.struct (T X)).make (λ v. tt) (λ x. refl) (λ v g. refl) (λ x. x) refl (λ f. refl) M 𝓤 𝓛 h (set xs i w) b o)

module _ (X : RattleType) (L : Laws X) {M : Type 1} {𝓤 : Ura M} (𝓛 : Logic 𝓤) (at_mem : Memory → SProp 𝓤) (run : Routine → Fun 𝓤) where
  open 𝓛 use {H, A}

  abbrev clauses : Clauses 𝓤 (ended X)
  clauses = F.clauses X 𝓛 at_mem run

  module _ (κ κT : Lft) (q qT : Share) (bd : AllOutlive 2 (ended X).signature.outlives (κ, (κT, tt))) (b o : ℕ) (γ : GName) (h : Table X.Denot) (i : ℕ) where
    abbrev self : MutBor (Table X.Denot)
    self = record { ref_ptr = (b, o); ghost_name = γ; now = h }

    abbrev bound : (walk_of 𝓛 (ended X) (stayed X) clauses).Ghost
    bound = (((κ, (κT, tt)), (q, (qT, tt)), bd, (self, (i, tt)), (vptr b o ∷ [], (vint w64 i ∷ [], tt))), tt)

    abbrev Post : Val → SProp 𝓤
    Post = (walk_of 𝓛 (ended X) (stayed X) clauses).post bound

    abbrev p : ℕ
    p = cell X L 𝓛 b o h i

    abbrev x : Option X.Denot
    x = get_or h.rows i None

    abbrev lent : GName → MutBor (Option X.Denot)
    lent γ' = record { ref_ptr = (b, p); ghost_name = γ'; now = x }

    exits : (γ' : GName)
        → ent 𝓤 (sep 𝓤 (sep 𝓤 (sem 𝓛 ((MutRef (named 0) κ (R X)).own_val (lent γ') (vptr b p ∷ []))) (sep 𝓤 (A.lft κ q) (sem 𝓛 (follows (Whole X) (R X) γ γ' (with X L 𝓛 b o h i))))) (A.lft κT qT)) (Post (vptr b p))
    exits γ' =
        qed 𝓛 ((‵ ((MutRef (named 0) κ (R X)).own_val (lent γ') (vptr b p ∷ [])) ⊛ ‵ (flft κ q) ⊛ ‵ (follows (Whole X) (R X) γ γ' (with X L 𝓛 b o h i))) ∷ ‵ (flft κT qT) ∷ []) ∵ split3 ! $
        suffices ! _ (ends_at 𝓛 (ended X) (stayed X) clauses bound (vptr b p) (lent γ') (tt, (tt, tt)) (tt, (tt, tt))) $
        nothing ! $ nothing ! $ fjoin ! $ nothing ! $ fjoin ! $ join ! $ nothing ! $ move ! (4 ∷ 0 ∷ []) $ join ! $ move ! (2 ∷ 0 ∷ []) $ join ! $ join ! $ frame ! $ says ! refl $ done !

    module _ (C : Calls 𝓤 H) (Λ : Loops 𝓤 H) where
      walk : i < 2 ^ 64 → size (layout (Whole X)) < 2 ^ 63 → i < 16
          → ent 𝓤 (on_entry 𝓛 (ended X).signature (κ, (κT, tt)) (q, (qT, tt)) (self, (i, tt)) (vptr b o ∷ [], (vint w64 i ∷ [], tt))) (WpFn 𝓤 H C Λ (fn' X) (vptr b o ∷ vint w64 i ∷ []) Post)
      walk fi room below =
          let tiny : s X < 2 ^ 64 = omega arith in
          let fewer : i * s X ≤ 16 * s X = mul-le-mul_right (s X) (omega arith) in
          let fits : i * s X < 2 ^ 64 = omega arith in
          qed 𝓛 ((‵ (flft κ q) ⊛ ‵ (flft κT qT) ⊛ ‵ ftrue) ∷ ‵ (owns (MutRef (named 0) κ (Whole X) ∷ usize ∷ []) (self, (i, tt)) (vptr b o ∷ [], (vint w64 i ∷ [], tt))) ∷ []) ∵
          enter ! C Λ (fn' X) (vptr b o ∷ vint w64 i ∷ []) _ $
          alloc_all ! (λ l. pass_all ! refl ((tt, tt), ((tt, record { fits = fi }), tt)) $
          sets ! (bin ! (get ! refl) (size_lit ! (record { fits = tiny })) (record { fits = fits })) refl (tt, record { fits = fits }) $
          sets ! (addr ! (through ! refl (fld ! refl (stop !)))) refl (tt, tt) $
          sets ! (bin ! (get ! refl) (get ! refl) tt) refl (tt, tt) $
          sets ! (addr ! (through ! refl (stop !))) refl (tt, tt) $
          -- [the tokens; what the arguments own; the locals]
          move ! (1 ∷ []) $ fsplit ! $ fsplit3 ! $ drop ! $ move ! (3 ∷ []) $ split3 ! $ move ! (3 ∷ 4 ∷ 0 ∷ []) $
          open_ref ! tt (mem (Whole X)) {b = b} {o = o} $
          -- [the struct; its borrow, open; obs; auth; the other token]
          use1 𝓛 (‵ (part_at (Array (R X) 16) full_share h.rows b (o + at X)) ⊛ Kept X L 𝓛 b o h i) (opened X L 𝓛 b o h i) $ split ! $
          use1 𝓛 (‵ ((arr_parts (shares (R X)) 16).part full_share h.rows b (o + at X))) (Array-apart 𝓛 (R X) full_share tt 16 h.rows b (o + at X)) $ fsplit ! $ feq_l ! (λ ln.
          let li : i < length h.rows = omega arith in
          use1 𝓛 (‵ (part_at (R X) full_share x b (place (s X) (o + at X) i)) ⊛ ‵ (others (shares (R X)) full_share h.rows i b (o + at X))) (takes (shares (R X)) full_share 𝓛 h.rows i None b (o + at X) li) $ split ! $
          rewrite ! 0 (λ (k : ℕ). ‵ (part_at (R X) full_share x b k)) (place_is (s X) (o + at X) i) refl $
          -- [the cell; the other cells; the rest of the struct; the borrow; obs; auth]
          move ! (1 ∷ 2 ∷ []) $ join ! $ move ! (2 ∷ 3 ∷ 4 ∷ 1 ∷ 0 ∷ []) $ group ! 5 $
          use1 𝓛 (later (some (λ (γ' : GName). raw (Part 𝓛 (Whole X) (R X) (with X L 𝓛 b o h i) (named 0) κ q b o b p γ (Rest X L 𝓛 b o h i) (back X L 𝓛 b o h i li ln) x γ'))))
          (lends_Part 𝓛 (Whole X) (R X) (with X L 𝓛 b o h i) (named 0) κ q b o b p γ (Rest X L 𝓛 b o h i) (back X L 𝓛 b o h i li ln) ((Whole X).coded.code h) ((Whole X).coded.code h) x) $ await ! tt $ pick ! (λ γ'.
          returns ! (look_at ! 0 refl) $ free_all ! refl $ keep ! (0 ∷ 1 ∷ []) $ by ! (exits γ'))))

  meets : (𝓣 : Tables 𝓤 H) → Meets 𝓛 (ended X).signature (WpFn 𝓤 H 𝓣.C 𝓣.Λ (fn' X)) (closing 𝓛 (ended X) clauses)
  meets 𝓣 =
      walk_Meets 𝓛 (ended X) (stayed X) (Goes-spent_ref 𝓛 2 (0 ∷ []) tt (plain (λ _. Whole X)), (Goes-dropped 𝓛 2 (plain (λ _. usize)) yes (λ κs x f. refl), tt)) clauses
      (WpFn 𝓤 H 𝓣.C 𝓣.Λ (fn' X)) (WpFn-mono 𝓤 H 𝓛.laws 𝓣 (fn' X))
      (walked 𝓛 (ended X) (stayed X) clauses (WpFn 𝓤 H 𝓣.C 𝓣.Λ (fn' X)) (λ κs. (mut_vals, (uint_vals w64, tt))) (λ κs. (mut_Tells (named 0) κs.0 (Whole X), (uint_Tells w64, tt)))
      (λ κs qs bounds a g are. asks 𝓤 _ (size (layout (Whole X)) < 2 ^ 63) (a.1.0 < 16) _ (λ room below.
      walk κs.0 κs.1.0 qs.0 qs.1.0 bounds a.0.ref_ptr.0 a.0.ref_ptr.1 a.0.ghost_name a.0.now a.1.0 𝓣.C 𝓣.Λ are.1.0.1 room below)))

pub place_mut_spec : {M : Type 1} → stated.statement M
unfolding tables_of
place_mut_spec 𝓤 𝓛 𝓜 𝓡 wired X L =
    let A = 𝓛.A in
    let 𝓣 : Tables 𝓤 𝓛.H = tables_of 𝓤 𝓛.H 𝓜 (tables 𝓤 𝓛.H 𝓜 𝓡 𝓡.env) in
    entered 𝓤 𝓛.H (triple_of 𝓛 (ended X).signature (F.spec X 𝓛 𝓜.mem 𝓡.returns)) 𝓣.C 𝓣.Λ (#self (args X)) (fn' X) (code.unfolded 𝓤 𝓛.H 𝓜 𝓡 wired (X, tt))
    (meets X L 𝓛 𝓜.mem 𝓡.returns 𝓣)
