-- A run of the bytes behind a `&mut [u8]` is lent on, and the whole follows the run. Assumes `Logic`.
use Rattle.std.proofs.Common.{◌≡◌, refl, sym, ℕ, ◌+◌, arith, List, [], ◌∷◌, ◌++◌, length, length-append}
use seplogic.Ra.Ura.{Ura}
use mir.Syntax.{Lifetime}
use mir.Val.{Val}
use base.Logic.{SProp, ent, sep, ex}
use base.Stored.{coded_list}
use base.Fml.{Lft, GName, Share, flft, fobs, fbor}
use types.Logic.{Logic, sem}
use types.Kit.{‵, ◌⊛◌, some, later, ◌$◌, ◌∵◌, !, qed, by, move, drop, use1, use2, split, split3, join, group, rewrite, fsplit, fsplit3, fjoin, feq_l, feq_i, updating, await, now, pick, show, done}
use types.SemTy.{SemTy, cells, Arr, Body}
use types.Follow.{takes_part}
use types.Mut.{open_ref}
use denote.Builtin.{u8}
use denote.Memory.{mem}
use denote.Array.{Array}
use denote.Slice.{MutSlice, Room, slice_val}
use denote.Follow.{follows}
use denote.FollowSlice.{heres_id, slice_of}
use borrow.Table.Elements.{at, at_byte, cut_app, join_app}

module _ {M : Type 1} {𝓤 : Ura M} (𝓛 : Logic 𝓤) (ℓ : Lifetime) (κ : Lft) (q : Share) (b o : ℕ) (γ : GName) (front run back : List ℕ) where
  open 𝓛 use {H, A}

  abbrev all : List ℕ
  all = front ++ (run ++ back)

  abbrev Bytes : ℕ → SemTy
  Bytes n = Arr (mem u8) n

  -- the offset of the run
  abbrev pub start : ℕ
  start = length front + o

  -- the slice with other bytes in the place of the run
  abbrev pub around : List ℕ → List ℕ
  around ws = front ++ (ws ++ back)

  abbrev pub Lent : GName → SProp 𝓤
  Lent δ = sep 𝓤 (sem 𝓛 ((MutSlice ℓ κ u8).own_val (record { ref_ptr = (b, start); ghost_name = δ; now = run }) (slice_val (b, start) (length run) ∷ []))) (sep 𝓤 (A.lft κ q) (sem 𝓛 (follows (Array u8 0) (Array u8 0) γ δ around)))

  -- what lies before the run, and after n bytes from its start on
  abbrev Beside : ℕ → SProp 𝓤
  Beside n = sep 𝓤 (sem 𝓛 (cells (mem u8) front b o)) (sem 𝓛 (cells (mem u8) back b (at start (mem u8).size n)))

  joins : (ws : List ℕ) → ent 𝓤 (sep 𝓤 (sem 𝓛 (cells (mem u8) ws b start)) (Beside (length ws))) (sem 𝓛 (cells (mem u8) (around ws) b o))
  joins ws = qed 𝓛 (‵ (cells (mem u8) ws b start) ∷ ‵ (cells (mem u8) front b o) ∷ ‵ (cells (mem u8) back b (at start (mem u8).size (length ws))) ∷ []) ∵
      move ! (0 ∷ 2 ∷ []) $ use2 𝓛 (‵ (cells (mem u8) (ws ++ back) b start)) (join_app 𝓛 (mem u8) ws back b start) $
      rewrite ! 0 (λ (p : ℕ). ‵ (cells (mem u8) (ws ++ back) b p)) (sym (at_byte o (length front))) refl $
      move ! (1 ∷ 0 ∷ []) $ by ! (join_app 𝓛 (mem u8) front (ws ++ back) b o)

  back_in : (ws : List ℕ) → ent 𝓤 (sep 𝓤 (sem 𝓛 ((Bytes (length run)).own_at ws b start)) (Beside (length run))) (sem 𝓛 ((Bytes (length all)).own_at (around ws) b o))
  back_in ws = qed 𝓛 (‵ ((Bytes (length run)).own_at ws b start) ∷ ‵ (cells (mem u8) front b o) ∷ ‵ (cells (mem u8) back b (at start (mem u8).size (length run))) ∷ []) ∵
      fsplit ! $ feq_l ! (λ e. rewrite ! 2 (λ (n : ℕ). ‵ (cells (mem u8) back b (at start (mem u8).size n))) (sym e) refl $
      let long : length (around ws) ≡ length all = omega (arith, length-append front (ws ++ back), length-append front (run ++ back), length-append ws back, length-append run back) in
      move ! (1 ∷ 2 ∷ []) $ join ! $ move ! (1 ∷ 0 ∷ []) $ use2 𝓛 (‵ (cells (mem u8) (around ws) b o)) (joins ws) $
      feq_i ! ℕ (length (around ws)) (length all) long $ fjoin ! $ done !)

  apart : ent 𝓤 (sem 𝓛 (cells (mem u8) all b o)) (sep 𝓤 (sem 𝓛 (cells (mem u8) run b start)) (Beside (length run)))
  apart = qed 𝓛 (‵ (cells (mem u8) all b o) ∷ []) ∵
      use1 𝓛 (‵ (cells (mem u8) front b o) ⊛ ‵ (cells (mem u8) (run ++ back) b (at o (mem u8).size (length front)))) (cut_app 𝓛 (mem u8) front (run ++ back) b o) $ split ! $ move ! (1 ∷ []) $
      rewrite ! 0 (λ (p : ℕ). ‵ (cells (mem u8) (run ++ back) b p)) (at_byte o (length front)) refl $
      use1 𝓛 (‵ (cells (mem u8) run b start) ⊛ ‵ (cells (mem u8) back b (at start (mem u8).size (length run)))) (cut_app 𝓛 (mem u8) run back b start) $ split ! $
      move ! (2 ∷ 1 ∷ []) $ join ! $ move ! (1 ∷ 0 ∷ []) $ done !

  pub lends_run : Room u8 (length run) → (vs : List Val)
      → ent 𝓤 (sep 𝓤 (sem 𝓛 ((MutSlice ℓ κ u8).own_val (record { ref_ptr = (b, o); ghost_name = γ; now = all }) vs)) (A.lft κ q)) (H.⇛ (ex 𝓤 Lent))
  lends_run room vs = qed 𝓛 (‵ ((MutSlice ℓ κ u8).own_val (record { ref_ptr = (b, o); ghost_name = γ; now = all }) vs) ∷ ‵ (flft κ q) ∷ []) ∵ updating ! $ fsplit3 ! $ drop ! $
      rewrite ! 0 (λ (l : List ℕ). ‵ (fobs γ ((coded_list u8.coded).code l))) (heres_id u8 all) refl $ open_ref ! tt (Bytes (length all)) {b = b} {o = o} $ fsplit ! $ drop ! $
      -- [the bytes; what the open borrow leaves]
      use1 𝓛 (‵ (cells (mem u8) run b start) ⊛ ‵ (cells (mem u8) front b o) ⊛ ‵ (cells (mem u8) back b (at start (mem u8).size (length run)))) apart $ split ! $
      feq_i ! ℕ (length run) (length run) refl $ fjoin ! $ move ! (2 ∷ 3 ∷ 4 ∷ 0 ∷ 1 ∷ []) $ group ! 5 $
      use1 𝓛 (later (some (λ (δ : GName). ‵ (fobs δ ((coded_list u8.coded).code run)) ⊛ ‵ (fbor κ (Body (Bytes (length run)) b start δ)) ⊛ ‵ (flft κ q) ⊛ ‵ (follows (Array u8 0) (Array u8 0) γ δ around))))
      (takes_part 𝓛 (Bytes (length all)) (Bytes (length run)) around κ q b o b start γ (Beside (length run)) back_in ((coded_list u8.coded).code all) ((coded_list u8.coded).code all) run) $ await ! tt $ pick ! (λ δ. split3 ! $
      use2 𝓛 (‵ ((MutSlice ℓ κ u8).own_val (record { ref_ptr = (b, start); ghost_name = δ; now = run }) (slice_val (b, start) (length run) ∷ []))) (slice_of 𝓛 u8 ℓ κ b start δ run room) $
      now ! $ show ! Lent δ $ done !)
