-- The bytes from `at` up to `to` behind a `&mut &mut [u8]` are lent, and the inner reference follows them: a walk of the MIR.
-- The outer borrow is opened to read the pointer and the count, the inner reference is lent through it, and the run is cut out of that.
use Rattle.std.proofs.Common.{◌≡◌, refl, sym, ap, ℕ, ◌+◌, ◌-◌, ◌^◌, ◌<◌, ◌≤◌, arith, List, [], ◌∷◌, ◌++◌, length, length-take, length-drop, take, drop as drop_list, ◌*◌, w64}
use Rattle.std.proofs.raw_atomic.Walks.{proved}
use base.Fraction.{full_share}
use base.Fml.{Lft, GName, ftrue, fat, flft}
use mir.Syntax.{Ty, named, erased, mut, w8, ty_ref, ty_int}
use mir.Val.{Val}
use contract.Running.{tables}
use denote.Exit.{yes, no}
use denote.RattleType.{RattleType, owns}
use denote.Laws.{Is, shows}
use denote.Builtin.{u8, usize}
use denote.Memory.{mem, part_at}
use borrow.Table.OneValue.{part_out_at, part_in_at}
use types.Mut.{open_ref, close_ref}
use denote.Plain.{uint_vals, uint_Tells}
use denote.Ref.{mut_vals, mut_Tells, at_last}
use denote.Array.{Array}
use denote.Slice.{MutSlice, Room, slice_ty, slice_val, mut_slice_vals}
use denote.Follow.{follows, follows_then}
use denote.Through.{renamed, lends_inner_slice}
use denote.Signature.{plain, types_at}
use denote.Steps.{nothing, only, peeks}
use denote.Triple.Walked.{says, needs, Stays, stay_dropped, walk_of, ends_at, Goes-dropped, Goes-spent_ref}
use types.Kit.{‵, ◌⊛◌, some, later, ◌$◌, ◌∵◌, !, qed, move, keep, use1, use2, use3, split, split3, join, rewrite, fsplit, fsplit3, fjoin, await, pick, suffices, frame, done}
use types.Part.{whole, sub, look_in, agg}
use types.Run.{stop, fld, hop, load, addr, of_opd, bin, and_then, no_more, returns, enter}
use types.ByLocal.{alloc_all, pass_all, free_all, look_at, get, get_in, through, sets}
use Rattle.byte_list.proofs.PartLaws.{cut_at}
use Rattle.page_text.proofs.LentPart.{lends_run}
use Rattle.page_text.specs.contracts.parts.RefMutSliceU8PageBytes.part_mut as f
use Rattle.page_text.proofs.parts.RefMutSliceU8PageBytes.part_mut.Statement.{statement}
use Rattle.page_text.proofs.parts.RefMutSliceU8PageBytes.part_mut.Code as code

abbrev Inner : Lft → RattleType
Inner κ = MutSlice (named 1) κ u8

-- the pointer and the count, as the code reads them
abbrev pair : Ty
pair = slice_ty (ty_ref erased mut (ty_int w8))

abbrev stayed : Stays f.ended.signature.params f.ended.kept
stayed = (stay_dropped _ no, (stay_dropped _ yes, (stay_dropped _ yes, tt)))

length-front : (xs : List ℕ) (i j : ℕ) → i ≤ j → j ≤ length xs → length (take i xs) ≡ i
length-front xs i j le inside = omega (arith, length-take i xs)

length-run : (xs : List ℕ) (i j : ℕ) → i ≤ j → j ≤ length xs → length (take (j - i) (drop_list i xs)) ≡ j - i
length-run xs i j le inside = omega (arith, length-take (j - i) (drop_list i xs), length-drop i xs)

roomy : (xs : List ℕ) (i j : ℕ) → i ≤ j → j ≤ length xs → Room u8 (length xs) → Room u8 (length (take (j - i) (drop_list i xs)))
roomy xs i j le inside room = let e = length-run xs i j le inside in let count : length xs < 2 ^ 64 = room.0 in let bytes : length xs * 1 < 2 ^ 63 = room.1 in (omega arith, omega arith)

pub part_mut_spec : {M : Type 1} → statement M
part_mut_spec 𝓤 𝓛 𝓜 𝓡 wired =
    let c = f.clauses 𝓛 𝓜.mem 𝓡.returns in let W = walk_of 𝓛 f.ended stayed c in let 𝓣 = tables 𝓤 𝓛.H 𝓜 𝓡 𝓡.env in
    proved 𝓛 f.ended stayed c 𝓜 𝓡
    (Goes-spent_ref 𝓛 2 (0 ∷ []) tt (plain (λ κs. Inner κs.1.0)), (Goes-dropped 𝓛 2 (plain (λ _. usize)) yes (λ κs x w. refl), (Goes-dropped 𝓛 2 (plain (λ _. usize)) yes (λ κs x w. refl), tt)))
    f.Key.name code.function (code.unfolded 𝓤 𝓛.H 𝓜 𝓡 wired)
    (λ κs. (mut_vals, (uint_vals w64, (uint_vals w64, tt)))) (λ κs. (mut_Tells (named 0) κs.0 (Inner κs.1.0), (uint_Tells w64, (uint_Tells w64, tt)))) (λ κs qs bounds a _ are.
    needs 𝓤 ((a.1.0 ≤ a.1.1.0) × (a.1.1.0 ≤ length a.0.now.now)) _ (λ le.
    let κ = κs.0 in let q = qs.0 in let b = a.0.ref_ptr.0 in let o = a.0.ref_ptr.1 in let γ = a.0.ghost_name in let x = a.0.now in let xs = x.now in
    let i = a.1.0 in let j = a.1.1.0 in let Sl = Inner κs.1.0 in
    let b' = x.ref_ptr.0 in let o' = x.ref_ptr.1 in let front = take i xs in let run = take (j - i) (drop_list i xs) in let back = drop_list j xs in
    let long : length front ≡ i = length-front xs i j le.0 le.1 in let count : length run ≡ j - i = length-run xs i j le.0 le.1 in
    let told : (run ≡ run) × (length run + i ≡ j) = (refl, omega (arith, count)) in
    let fits : j < 2 ^ 64 = are.1.1.0.1 in let shorter : j - i < 2 ^ 64 = omega arith in
    let y : W.Ghost = ((κs, qs, bounds, a, (mut_vals a.0, (uint_vals w64 i, (uint_vals w64 j, tt)))), tt) in
    qed 𝓛 ((‵ (flft κ q) ⊛ (‵ (flft κs.1.0 qs.1.0) ⊛ ‵ ftrue)) ∷ ‵ (owns (types_at f.ended.signature.params κs) a y.0.4) ∷ []) ∵
    split ! $ move ! (2 ∷ []) $ fsplit ! $ fsplit3 ! $ keep ! (1 ∷ 2 ∷ 4 ∷ 5 ∷ []) $
    enter ! _ _ _ _ _ $ alloc_all ! (λ l. pass_all ! refl ((tt, tt), ((tt, record { fits = are.1.0.1 }), ((tt, record { fits = are.1.1.0.1 }), tt))) $
    -- [what γ is seen at; the outer borrow; the token of κ; the other tokens; the locals]
    open_ref ! tt (mem Sl) {b = b} {o = o} $
    use1 𝓛 (some (λ (v : Val). ‵ (fat full_share pair b o v) ⊛ ‵ (Sl.own_val x (v ∷ [])))) (part_out_at 𝓛 Sl refl full_share x b o pair refl) $ pick ! (λ v. split ! $ move ! (1 ∷ []) $
    peeks ! Sl (Is Sl) (shows 𝓛 Sl) x (v ∷ []) (λ is. let e : v ≡ slice_val x.ref_ptr (length xs) = ap only is.0.0 in
    rewrite ! 1 (λ (u : Val). ‵ (fat full_share pair b o u)) e refl $
    sets ! (of_opd ! (load ! (through ! refl (fld ! refl (stop !))) (look_in ! 1 (sub ! 1 refl (whole !))))) refl (tt, record { fits = is.0.1.0 }) $
    sets ! (addr ! (through ! refl (fld ! refl (hop ! (look_in ! 1 (sub ! 0 refl (whole !))) (stop !))))) refl (tt, tt) $
    rewrite ! 1 (λ (u : Val). ‵ (fat full_share pair b o u)) (sym e) refl $ move ! (1 ∷ 0 ∷ []) $
    use2 𝓛 (‵ (part_at Sl full_share x b o)) (part_in_at 𝓛 Sl refl full_share x b o pair refl v) $ close_ref ! tt (mem Sl) x {b = b} {o = o} $
    sets ! (agg ! (and_then ! (get ! refl) (and_then ! (get ! refl) (no_more !)))) refl (tt, (tt, (record { fits = is.0.1.0 }, tt))) $
    sets ! (bin ! (get_in ! (fld ! refl (stop !)) (sub ! 0 refl (whole !))) (get ! refl) tt) refl (tt, tt) $
    sets ! (bin ! (get ! refl) (get ! refl) le.0) refl (tt, record { fits = shorter }) $
    sets ! (addr ! (through ! refl (stop !))) refl (tt, tt) $
    sets ! (agg ! (and_then ! (get ! refl) (and_then ! (get ! refl) (no_more !)))) refl (tt, (tt, (record { fits = shorter }, tt))) $
    -- the inner reference is lent for κ, and the run of it
    use3 𝓛 (later (some (λ (δ : GName). ‵ ((MutSlice (named 0) κ u8).own_val (renamed x δ) (mut_slice_vals x)) ⊛ ‵ (flft κ q) ⊛ ‵ (follows Sl (Array u8 0) γ δ (at_last x)))))
    (lends_inner_slice 𝓛 u8 (named 0) (named 1) κ κs.1.0 a.0 bounds.0 is.0.1 q) $ await ! tt $ pick ! (λ δ. split3 ! $
    rewrite ! 0 (λ (zs : List ℕ). ‵ ((MutSlice (named 0) κ u8).own_val (record { ref_ptr = x.ref_ptr; ghost_name = δ; now = zs }) (mut_slice_vals x))) (sym (cut_at xs i j le.0)) refl $
    use2 𝓛 (later (some (λ (ε : GName). ‵ ((MutSlice (named 0) κ u8).own_val (record { ref_ptr = (b', length front + o'); ghost_name = ε; now = run }) (slice_val (b', length front + o') (length run) ∷ []))
    ⊛ ‵ (flft κ q) ⊛ ‵ (follows (Array u8 0) (Array u8 0) δ ε (λ ws. front ++ (ws ++ back))))))
    (lends_run 𝓛 (named 0) κ q b' o' δ front run back (roomy xs i j le.0 le.1 is.0.1) (mut_slice_vals x)) $ await ! tt $ pick ! (λ ε. split3 ! $
    rewrite ! 0 (λ (k : ℕ). ‵ ((MutSlice (named 0) κ u8).own_val (record { ref_ptr = (b', k + o'); ghost_name = ε; now = run }) (slice_val (b', k + o') (length run) ∷ []))) long refl $
    rewrite ! 0 (λ (n : ℕ). ‵ ((MutSlice (named 0) κ u8).own_val (record { ref_ptr = (b', i + o'); ghost_name = ε; now = run }) (slice_val (b', i + o') n ∷ []))) count refl $
    move ! (3 ∷ 2 ∷ []) $ use2 𝓛 (‵ (follows Sl (Array u8 0) γ ε (λ ws. at_last x (front ++ (ws ++ back))))) (follows_then 𝓛 Sl (Array u8 0) (Array u8 0) (at_last x) (λ ws. front ++ (ws ++ back)) γ δ ε) $
    -- [what the outer ends as; the run; the tokens]
    returns ! (look_at ! 0 refl) $ free_all ! refl $
    suffices ! _ (ends_at 𝓛 f.ended stayed c y (slice_val (b', i + o') (j - i)) (record { ref_ptr = (b', i + o'); ghost_name = ε; now = run }) (tt, (tt, (tt, tt))) (tt, (tt, (tt, tt)))) $
    nothing ! $ nothing ! $ fjoin ! $ nothing ! $ fjoin ! $ nothing ! $ fjoin ! $ move ! (0 ∷ 2 ∷ []) $ join ! $ move ! (2 ∷ 3 ∷ []) $ join ! $ join ! $ frame ! $ says ! told $ done !)))))))
