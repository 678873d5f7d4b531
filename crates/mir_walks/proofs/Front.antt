-- The first records of a slice, `&mut s[..m]`, that a walk lends for one call, and has back after it. The file is written by walkgen.
--     front                    the first m of a list
--     refronted                the list with others in their place
--     front_size, front_length     their lengths
--     lend_front, back_front   the first m of a `&mut [R]` lent again as `&mut [R]`; they come back at the callee's last list, before the others
-- The context before a loan is [token; slice; …], and while it lasts [the callee's token; the callee's slice; what is kept; …].
-- Assumes `Logic`.
use mathlib.Core.Path.{◌≡◌, refl, sym, ◌∙◌, ap, subst}
use Prim.Native.Nat.{ℕ, ◌≤◌}
use mathlib.Core.List.{List, [], ◌∷◌, ◌++◌}
use lib.ListN.{length, take, drop as drop-list, take-append-drop}
use lib.Seq.{length-take-le}
use seplogic.Ra.Ura.{Ura}
use base.Fraction.{full_share}
use mir.Syntax.{named}
use mir.Val.{Val}
use base.Logic.{ent, sep, ex}
use base.Fml.{Lft, GName, Share, Fml, fsep, flft, fdead, fobs, fauth, flent, fobor}
use types.Logic.{Logic, sem}
use types.Kit.{Item, Goal, Soaks, Seq, ‵, ◌⊛◌, some, later, ◌$◌, ◌∵◌, !, qed, move, use1, use2, use3, drop, split, pick, fsplit, fjoin, rewrite, frame, await, updating, now as at_once, show, done}
use types.Tokens.{lft_new, lft_end}
use types.SemTy.{cells, Arr}
use denote.RattleType.{RattleType}
use denote.Laws.{Is, shows}
use denote.Shadow.{pure_l, pure_i}
use denote.Memory.{mem}
use denote.Slice.{slice_val, MutSlice, heres, Room, finally, mut_slice_at, coded_holeys}
use denote.Lend.{Held, lends_slice, slice_back}
use denote.Index.{row, whole_out, whole_in, opens_slice, closes_slice}
use denote.Steps.{peeks}
use borrow.Table.Elements.{at, cut_app, join_app, same_len}
use borrow.Rule.Array.Share.{Room-take}
use Rattle.mir_walks.proofs.Lend.{ref}

abbrev pub front : {X : Type 0} → ℕ → List X → List X
front m ys = take m ys

abbrev pub refronted : {X : Type 0} → ℕ → List X → List X → List X
refronted m ys zs = zs ++ drop-list m ys

pub front_size : {X : Type 0} (m : ℕ) (ys : List X) (n : ℕ) → length ys ≡ n → m ≤ n → length (front m ys) ≡ m
front_size m ys n en le = length-take-le m ys (subst (λ (k : ℕ). m ≤ k) (sym en) le)

pub front_length : {X : Type 0} (m : ℕ) (ys : List X) (n : ℕ) → length ys ≡ n → m ≤ n → (zs : List X) → length zs ≡ m → length (refronted m ys zs) ≡ n
front_length m ys n en le zs e = same_len m ys zs (e ∙ sym (front_size m ys n en le)) ∙ en

module _ (R : RattleType) (κ κ' : Lft) (q : Share) (γ : GName) (b o : ℕ) where
  -- where the others begin
  abbrev others_at : ℕ → List R.Denot → ℕ
  others_at m ys = at o (mem R).size (length (front m ys))

  -- what the holder keeps while the first m are lent for κ': the way back, the others, and the open borrow
  abbrev pub LentFront : GName → ℕ → List R.Denot → Fml
  LentFront γ₁ m ys =
      fsep (flent κ' (Held R (length (front m ys)) b o γ₁)) (fsep (cells (mem R) (drop-list m ys) b (others_at m ys))
      (fsep (fobor κ q (Held R (length ys) b o γ)) (fsep (fobs γ ((coded_holeys R).code (heres R ys))) (fauth γ ((coded_holeys R).code (heres R ys))))))

  module _ {M : Type 1} {𝓤 : Ura M} (𝓛 : Logic 𝓤) (m : ℕ) (ys : List R.Denot) where
    open 𝓛 use {H, A}

    abbrev vals : List R.Denot → List Val
    vals xs = slice_val (b, o) (length xs) ∷ []

    pub lends_front : ent 𝓤 (sep 𝓤 (sem 𝓛 ((MutSlice (named 0) κ R).own_val (ref b o γ ys) (vals ys))) (A.lft κ q))
        (H.⇛ (ex 𝓤 (λ (γ₁ : GName). sep 𝓤 (sem 𝓛 ((MutSlice (named 0) κ' R).own_val (ref b o γ₁ (front m ys)) (vals (front m ys)))) (sem 𝓛 (LentFront γ₁ m ys)))))
    lends_front =
        qed 𝓛 (‵ ((MutSlice (named 0) κ R).own_val (ref b o γ ys) (vals ys)) ∷ ‵ (flft κ q) ∷ []) ∵ updating ! $ fsplit ! $ pure_l ! (mut_slice_at R (ref b o γ ys) (vals ys)) (λ p. fsplit ! $ opens_slice ! tt R ys b o $
        use1 𝓛 (‵ (cells (mem R) ys b o)) (whole_in 𝓛 R ys b o) $
        rewrite ! 0 (λ (xs : List R.Denot). ‵ (cells (mem R) xs b o)) (sym (take-append-drop m ys)) refl $
        use1 𝓛 (‵ (cells (mem R) (front m ys) b o) ⊛ ‵ (cells (mem R) (drop-list m ys) b (others_at m ys))) (cut_app 𝓛 (mem R) (front m ys) (drop-list m ys) b o) $ split ! $
        use1 𝓛 (later (some (λ (γ₁ : GName). ‵ ((MutSlice (named 0) κ' R).own_val (ref b o γ₁ (front m ys)) (vals (front m ys))) ⊛ ‵ (flent κ' (Held R (length (front m ys)) b o γ₁))))) (lends_slice 𝓛 R (named 0) κ' (front m ys) b o (Room-take R (length ys) m ys refl p.1)) $ await ! tt $ pick ! (λ γ₁. split ! $
        -- [the new slice; the lender's part at κ'; the others; the open borrow at κ; obs γ; auth γ]
        at_once ! $ show ! (λ (γ' : GName). sep 𝓤 (sem 𝓛 ((MutSlice (named 0) κ' R).own_val (ref b o γ' (front m ys)) (vals (front m ys)))) (sem 𝓛 (LentFront γ' m ys))) γ₁ $ frame ! $
        move ! (3 ∷ 4 ∷ []) $ fjoin ! $ move ! (3 ∷ 0 ∷ []) $ fjoin ! $ move ! (2 ∷ 0 ∷ []) $ fjoin ! $ move ! (1 ∷ 0 ∷ []) $ fjoin ! $ done !))

    pub front_back : (γ₁ : GName) (zs : List R.Denot) → Room R (length ys) → length zs ≡ length (front m ys)
        → ent 𝓤 (sep 𝓤 (A.dead κ') (sep 𝓤 (sem 𝓛 (LentFront γ₁ m ys)) (sem 𝓛 (finally R γ₁ zs)))) (H.⇛ (sep 𝓤 (sem 𝓛 ((MutSlice (named 0) κ R).own_val (ref b o γ (refronted m ys zs)) (vals ys))) (A.lft κ q)))
    front_back γ₁ zs room e =
        qed 𝓛 (‵ (fdead κ') ∷ ‵ (LentFront γ₁ m ys) ∷ ‵ (finally R γ₁ zs) ∷ []) ∵ updating ! $ move ! (1 ∷ []) $ fsplit ! $ move ! (2 ∷ 0 ∷ 3 ∷ []) $
        use3 𝓛 (later (‵ ((Arr (mem R) (length (front m ys))).own_at zs b o))) (slice_back 𝓛 R κ' γ₁ zs (length (front m ys)) b o) $ await ! tt $ fsplit ! $ drop ! $
        -- [the first ones; the others with the open borrow]
        move ! (1 ∷ []) $ fsplit ! $ rewrite ! 0 (λ (k : ℕ). ‵ (cells (mem R) (drop-list m ys) b (at o (mem R).size k))) (sym e) refl $ move ! (2 ∷ 0 ∷ []) $
        use2 𝓛 (‵ (cells (mem R) (refronted m ys zs) b o)) (join_app 𝓛 (mem R) zs (drop-list m ys) b o) $ use1 𝓛 (‵ (row R full_share (refronted m ys zs) b o)) (whole_out 𝓛 R (refronted m ys zs) b o) $
        move ! (1 ∷ []) $ fsplit ! $ move ! (1 ∷ []) $ fsplit ! $ move ! (3 ∷ 2 ∷ 0 ∷ 1 ∷ []) $ closes_slice ! tt R ys (refronted m ys zs) (same_len m ys zs e) b o $ at_once ! $
        fjoin ! $ pure_i ! (mut_slice_at R (ref b o γ (refronted m ys zs)) (vals ys)) (tt, (tt, tt)) (ap (λ (k : ℕ). slice_val (b, o) k ∷ []) (sym (same_len m ys zs e)), subst (Room R) (sym (same_len m ys zs e)) room) $ fjoin ! $ done !

module _ {M : Type 1} {𝓤 : Ura M} {𝓛 : Logic 𝓤} {K : Type 0} {Γ : List (Item 𝓤)} {G : Goal 𝓤 𝓛.H} where
  pub lend_front : K → Soaks G → (R : RattleType) {κ : Lft} {q : Share} (b o : ℕ) (γ : GName) (ys : List R.Denot) (n : ℕ) → length ys ≡ n → (m : ℕ) → m ≤ n
      → ((ν : ℕ) (δ : GName) → Room R (length ys) → Seq K 𝓛 (‵ (flft (ν ∷ []) full_share) ∷ ‵ ((MutSlice (named 0) (ν ∷ []) R).own_val (ref b o δ (front m ys)) (slice_val (b, o) m ∷ [])) ∷ ‵ (LentFront R κ (ν ∷ []) q γ b o δ m ys) ∷ Γ) G)
      → Seq K 𝓛 (‵ (flft κ q) ∷ ‵ ((MutSlice (named 0) κ R).own_val (ref b o γ ys) (slice_val (b, o) n ∷ [])) ∷ Γ) G
  lend_front t s R {κ} {q} b o γ ys n en m le k =
      move t (1 ∷ []) $ rewrite t 0 (λ (j : ℕ). ‵ ((MutSlice (named 0) κ R).own_val (ref b o γ ys) (slice_val (b, o) j ∷ []))) (sym en) refl $
      peeks t (MutSlice (named 0) κ R) (Is (MutSlice (named 0) κ R)) (shows 𝓛 (MutSlice (named 0) κ R)) (ref b o γ ys) (slice_val (b, o) (length ys) ∷ []) (λ has. lft_new t s (λ ν. move t (1 ∷ 2 ∷ []) $
      use2 𝓛 (later (some (λ (δ : GName). ‵ ((MutSlice (named 0) (ν ∷ []) R).own_val (ref b o δ (front m ys)) (slice_val (b, o) (length (front m ys)) ∷ [])) ⊛ ‵ (LentFront R κ (ν ∷ []) q γ b o δ m ys)))) (lends_front R κ (ν ∷ []) q γ b o 𝓛 m ys) $ await t s $ pick t (λ δ. split t $
      rewrite t 0 (λ (j : ℕ). ‵ ((MutSlice (named 0) (ν ∷ []) R).own_val (ref b o δ (front m ys)) (slice_val (b, o) j ∷ []))) (front_size m ys n en le) refl $ move t (2 ∷ 0 ∷ []) $ k ν δ has.0.1)))

  pub back_front : K → Soaks G → (R : RattleType) {κ : Lft} {q : Share} (b o : ℕ) (γ : GName) (ys : List R.Denot) (n : ℕ) → length ys ≡ n → (m : ℕ) (ν : ℕ) (δ : GName) → Room R (length ys) → (zs : List R.Denot) → length zs ≡ length (front m ys)
      → Seq K 𝓛 (‵ (flft κ q) ∷ ‵ ((MutSlice (named 0) κ R).own_val (ref b o γ (refronted m ys zs)) (slice_val (b, o) n ∷ [])) ∷ Γ) G → Seq K 𝓛 (‵ (flft (ν ∷ []) full_share) ∷ ‵ (LentFront R κ (ν ∷ []) q γ b o δ m ys) ∷ ‵ (finally R δ zs) ∷ Γ) G
  back_front t s R {κ} {q} b o γ ys n en m ν δ room zs l k =
      lft_end t s $ use3 𝓛 (later (‵ ((MutSlice (named 0) κ R).own_val (ref b o γ (refronted m ys zs)) (slice_val (b, o) (length ys) ∷ [])) ⊛ ‵ (flft κ q))) (front_back R κ (ν ∷ []) q γ b o 𝓛 m ys δ zs room l) $ await t s $ split t $
      rewrite t 0 (λ (j : ℕ). ‵ ((MutSlice (named 0) κ R).own_val (ref b o γ (refronted m ys zs)) (slice_val (b, o) j ∷ []))) en refl $ move t (1 ∷ 0 ∷ []) $ k
