-- A local array of a walk: from the statement that makes it up to a `return` it is a slice that is lent out of the local, with a token, as a `&mut [R]` parameter is. The file is written by walkgen.
--     repeats        `[x; n]` is an array of n times x
--     lend_array     the local that holds `[x; n]` is lent for a lifetime that is made for it: [the local; …] becomes [token; slice; what the local keeps; …]
--     back_array     the way back, with the list that the slice has then; the local is empty
-- Assumes `Logic`.
use mathlib.Core.Path.{◌≡◌, refl, sym, subst}
use Prim.Native.Nat.{ℕ, zero, suc}
use mathlib.Core.List.{List, [], ◌∷◌}
use lib.ListN.{length, replicate, length-replicate}
use seplogic.Ra.Ura.{Ura}
use base.Fraction.{full_share}
use mir.Syntax.{named, ty_array}
use mir.Val.{Val}
use base.Logic.{ent, sep, ex}
use base.Fml.{GName, fsep, fat, froom, flft, flent, fres}
use types.Logic.{Logic, sem}
use types.Kit.{Item, Goal, Soaks, Seq, ‵, ◌⊛◌, some, later, ◌$◌, ◌∵◌, !, qed, move, use1, use2, use3, drop, split, pick, fsplit, fjoin, fpick, fpack, feq_i, rewrite, await, show, done}
use types.SemTy.{cells, Arr}
use types.Share.{arr_parts}
use types.Run.{forget}
use types.Tokens.{lft_new, lft_end}
use denote.RattleType.{RattleType}
use denote.Laws.{Is, Tells, Makes, shows}
use denote.Shadow.{shadow}
use denote.Memory.{lone, part_at, part_of, cell_at, mem, shares}
use denote.Array.{Array, each, array_val, array_vals, Array-Tells, Array-Makes}
use denote.ArrayMemory.{Single, Array-apart, Array-whole}
use denote.Index.{row, whole_in, whole_out}
use denote.Slice.{slice_val, MutSlice, Room, finally, res-finally, coded_holeys, heres}
use denote.Lend.{Held, lends_slice, slice_back}
use denote.Steps.{owned, only}
use denote.Struct.Steps.{spelt}
use Rattle.mir_walks.proofs.Lend.{ref}

module _ (R : RattleType) where
  each_repeats : (n : ℕ) (x : R.Denot) (u : Val) → Is R x (u ∷ []) → shadow (each R.Denot R.own_val (replicate n x) (replicate n u))
  each_repeats zero x u is = tt
  each_repeats (suc n) x u is = (is, each_repeats n x u is)

  pub repeats : (n : ℕ) (x : R.Denot) (u : Val) → Is R x (u ∷ []) → Is (Array R n) (replicate n x) (array_val (replicate n u) ∷ [])
  repeats n x u is = (replicate n u, ((refl, length-replicate n x), each_repeats n x u is))

module _ {M : Type 1} {𝓤 : Ura M} (𝓛 : Logic 𝓤) (R : RattleType) (n : ℕ) (xs : List R.Denot) (b o : ℕ) where
  apart : Single R.mir → (vs : List Val) → ent 𝓤 (sep 𝓤 (sem 𝓛 (cell_at full_share (Array R n).mir vs b o)) (sem 𝓛 ((Array R n).own_val xs vs))) (sem 𝓛 (cells (mem R) xs b o))
  unfolding part_of
  apart one vs =
      qed 𝓛 (‵ (cell_at full_share (Array R n).mir vs b o) ∷ ‵ ((Array R n).own_val xs vs) ∷ []) ∵ fjoin ! $ fpack ! (List Val) (λ us. fsep (cell_at full_share (Array R n).mir us b o) ((Array R n).own_val xs us)) vs $
      use1 𝓛 (‵ ((arr_parts (shares R) n).part full_share xs b o)) (Array-apart 𝓛 R full_share one n xs b o) $ fsplit ! $ drop ! $ use1 𝓛 (‵ (cells (mem R) xs b o)) (whole_in 𝓛 R xs b o) $ done !

  together : length xs ≡ n → ent 𝓤 (sem 𝓛 (cells (mem R) xs b o)) (ex 𝓤 (λ (vs : List Val). sep 𝓤 (sem 𝓛 (cell_at full_share (Array R n).mir vs b o)) (sem 𝓛 ((Array R n).own_val xs vs))))
  unfolding part_of
  together e =
      qed 𝓛 (‵ (cells (mem R) xs b o) ∷ []) ∵ use1 𝓛 (‵ (row R full_share xs b o)) (whole_out 𝓛 R xs b o) $ feq_i ! ℕ (length xs) n e $ fjoin ! $
      use1 𝓛 (‵ (part_at (Array R n) full_share xs b o)) (Array-whole 𝓛 R full_share n xs b o) $ fpick ! (λ vs. fsplit ! $
      show ! (λ (us : List Val). sep 𝓤 (sem 𝓛 (cell_at full_share (Array R n).mir us b o)) (sem 𝓛 ((Array R n).own_val xs us))) vs $ done !)

module _ {M : Type 1} {𝓤 : Ura M} {𝓛 : Logic 𝓤} {K : Type 0} {Γ : List (Item 𝓤)} {G : Goal 𝓤 𝓛.H} where
  pub lend_array : K → Soaks G → (R : RattleType) → Single R.mir → Makes 𝓛 R (Is R) → (n : ℕ) (x : R.Denot) (u : Val) (l : ℕ) → Is R x (u ∷ []) → Room R n
      → ((ν : ℕ) (δ : GName) → Seq K 𝓛 (‵ (flft (ν ∷ []) full_share) ∷ ‵ ((MutSlice (named 0) (ν ∷ []) R).own_val (ref l 0 δ (replicate n x)) (slice_val (l, 0) n ∷ [])) ∷ ‵ (flent (ν ∷ []) (Held R n l 0 δ)) ∷ Γ) G)
      → Seq K 𝓛 (‵ (fat full_share (ty_array (lone R.mir) n) l 0 (array_val (replicate n u))) ∷ Γ) G
  lend_array t s R one mk n x u l is room k =
      use1 𝓛 (‵ (cell_at full_share (Array R n).mir (array_val (replicate n u) ∷ []) l 0)) (𝓛.laws.at_raw full_share (ty_array (lone R.mir) n) l 0 (array_val (replicate n u))) $
      owned t (Array R n) (Is (Array R n)) (Array-Makes 𝓛 R mk n) (replicate n x) (array_val (replicate n u) ∷ []) (repeats R n x u is) $ move t (1 ∷ 0 ∷ []) $
      use2 𝓛 (‵ (cells (mem R) (replicate n x) l 0)) (apart 𝓛 R n (replicate n x) l 0 one (array_val (replicate n u) ∷ [])) $ lft_new t s (λ ν. move t (1 ∷ []) $
      use1 𝓛 (later (some (λ (δ : GName). ‵ ((MutSlice (named 0) (ν ∷ []) R).own_val (ref l 0 δ (replicate n x)) (slice_val (l, 0) (length (replicate n x)) ∷ [])) ⊛ ‵ (flent (ν ∷ []) (Held R (length (replicate n x)) l 0 δ)))))
      (lends_slice 𝓛 R (named 0) (ν ∷ []) (replicate n x) l 0 (subst (Room R) (sym (length-replicate n x)) room)) $ await t s $ pick t (λ δ. split t $
      rewrite t 0 (λ (m : ℕ). ‵ ((MutSlice (named 0) (ν ∷ []) R).own_val (ref l 0 δ (replicate n x)) (slice_val (l, 0) m ∷ []))) (length-replicate n x) refl $
      rewrite t 1 (λ (m : ℕ). ‵ (flent (ν ∷ []) (Held R m l 0 δ))) (length-replicate n x) refl $ move t (2 ∷ 0 ∷ 1 ∷ []) $ k ν δ))

  pub back_array : K → Soaks G → (R : RattleType) (vals : R.Denot → List Val) → Tells R (Is R) vals → (n l ν : ℕ) (δ : GName) (zs : List R.Denot) → length zs ≡ n
      → Seq K 𝓛 (‵ (froom (ty_array (lone R.mir) n) l 0) ∷ Γ) G
      → Seq K 𝓛 (‵ (flft (ν ∷ []) full_share) ∷ ‵ ((MutSlice (named 0) (ν ∷ []) R).own_val (ref l 0 δ zs) (slice_val (l, 0) n ∷ [])) ∷ ‵ (flent (ν ∷ []) (Held R n l 0 δ)) ∷ Γ) G
  back_array t s R vals tl n l ν δ zs e k =
      lft_end t s $ move t (1 ∷ []) $ fsplit t $ drop t $ fsplit t $
      use1 𝓛 (‵ (fres δ ((coded_holeys R).code (heres R zs)))) (𝓛.names.obs-res δ ((coded_holeys R).code (heres R zs))) $
      use1 𝓛 (‵ (finally R δ zs)) (res-finally 𝓛 (named 0) (ν ∷ []) R δ zs) $ move t (1 ∷ []) $ drop t $ move t (1 ∷ 2 ∷ 0 ∷ []) $
      use3 𝓛 (later (‵ ((Arr (mem R) n).own_at zs l 0))) (slice_back 𝓛 R (ν ∷ []) δ zs n l 0) $ await t s $ fsplit t $ drop t $
      use1 𝓛 (some (λ (vs : List Val). ‵ (cell_at full_share (Array R n).mir vs l 0) ⊛ ‵ ((Array R n).own_val zs vs))) (together 𝓛 R n zs l 0 e) $ pick t (λ vs. split t $
      spelt t (Array R n) (Is (Array R n)) (shows 𝓛 (Array R n)) (array_vals vals) (Array-Tells R vals tl n) full_share zs vs l 0 $ move t (1 ∷ []) $ drop t $
      use1 𝓛 (‵ (fat full_share (ty_array (lone R.mir) n) l 0 (only (array_vals vals zs)))) (𝓛.laws.raw_at full_share (ty_array (lone R.mir) n) l 0 (only (array_vals vals zs))) $ forget t 0 refl $ k)
