-- A call inside a walk, in one step: the callee's slices stand first among its parameters, its others and its result are plain data.
-- A combinator for each shape in use, named by what is done with each slice:
--     shr        the callee takes a `&[R]`, of which the caller has one; R's law of copies is asked for
--     view       the callee takes a `&[R]`, and the caller has a `&mut [R]`, which is as it was after the call; R's law of sharing is asked for, and that the slice ends before what R's values name
--     mut        the callee takes a `&mut [R]`, which is lent again, and stands at the callee's last list after the call
--     front      as mut, of the first records of the slice; the others stand behind the callee's last list
--     last       behind these: the call is the last statement of its arm or its turn
-- What follows is handed the result's machine value and the result, the last list of each `mut` and that it is as long, the fact that the callee ensures, and that the result is what its type says.
-- The context is [token; slice; …] for each slice of the call, before it and after it. The file is written by walkgen.
-- Assumes `Logic`.
use mathlib.Core.Path.{◌≡◌, ◌∙◌}
use Prim.Native.Nat.{ℕ, ◌≤◌}
use mathlib.Core.List.{List, [], ◌∷◌}
use lib.ListN.{length}
use seplogic.Ra.Ura.{Ura}
use base.Fraction.{full_share}
use mir.Syntax.{Callee, Place, Opd as Operand, Body, seq, call, named}
use mir.Val.{Val}
use base.Logic.{SProp, ent, emp, id⊢}
use base.Fml.{Lft, GName, Share, Incl, ftrue, fsep, flft}
use prog.Wp.{Env, Calls, Loops}
use types.Logic.{Logic, sem}
use sound.WpLaws.{FmC}
use types.Kit.{Item, ‵, raw, ◌⊛◌, some, later, Post, runs, lands, settles, Seq, ◌$◌, ◌∵◌, !, qed, move, drop, use0, use1, split, join, pick, fsplit, fjoin, feq_l, frame, await, done}
use types.Run.{Opds}
use contract.Lifetimes.{Lfts}
use contract.Monad.{fact}
use denote.RattleType.{RattleType, RowLaws, Denots, Valss, flat, owns}
use denote.Laws.{Is, shows}
use denote.Slice.{slice_val, ShrSlice, MutSlice}
use denote.Shares.{Shares}
use denote.Signature.{Slot, plain, shr_slice_of, mut_slice_of, types_at}
use denote.Steps.{nothing, peeks, heard}
use denote.Exit.{yes}
use denote.Triple.Statement.{Contract, Triple}
use denote.Triple.Call.{calls_at, calls_at_last}
use denote.Triple.Entry.{Args}
use denote.Triple.End.{Kepts}
use denote.Triple.Spec.{triple_of}
use denote.Triple.Clauses.{Clauses, Ended, Lasts, at_exit, lasts, ensured, closing}
use Rattle.mir_walks.proofs.Lend.{ref, seen, Viewed, LentAgain, lend_mut, back_mut, lend_view, back_view, lend_shr}
use Rattle.mir_walks.proofs.Front.{front, refronted, front_size, LentFront, lend_front, back_front}

abbrev pub contract_of : {M : Type 1} {𝓤 : Ura M} (𝓛 : Logic 𝓤) (T : Ended) → Clauses 𝓤 T → Contract 𝓤
contract_of 𝓛 T c = triple_of 𝓛 T.signature (closing 𝓛 T c)

-- a callee's signature: its slices, the other parameters' slots, and the result's type
abbrev pub plain_ended : (Q : RattleType) (ss : List (Slot 0)) → Kepts ss → Ended
plain_ended Q ss ks = record { signature = record { lifetimes = 0; outlives = []; params = ss; result = plain (λ _. Q) }; kept = ks }

abbrev pub mut_ended : (R₀ Q : RattleType) (ss : List (Slot 1)) → Kepts ss → Ended
mut_ended R₀ Q ss ks = record { signature = record { lifetimes = 1; outlives = []; params = mut_slice_of (0 ∷ []) tt (plain (λ _. R₀)) ∷ ss; result = plain (λ _. Q) }; kept = (yes, ks) }

abbrev pub shr_ended : (R₀ Q : RattleType) (ss : List (Slot 1)) → Kepts ss → Ended
shr_ended R₀ Q ss ks = record { signature = record { lifetimes = 1; outlives = []; params = shr_slice_of (0 ∷ []) tt (plain (λ _. R₀)) ∷ ss; result = plain (λ _. Q) }; kept = (yes, ks) }

abbrev pub mut_mut_ended : (R₀ R₁ Q : RattleType) (ss : List (Slot 2)) → Kepts ss → Ended
mut_mut_ended R₀ R₁ Q ss ks = record { signature = record { lifetimes = 2; outlives = []; params = mut_slice_of (0 ∷ []) tt (plain (λ _. R₀)) ∷ mut_slice_of (1 ∷ []) tt (plain (λ _. R₁)) ∷ ss; result = plain (λ _. Q) }; kept = (yes, (yes, ks)) }

abbrev pub mut_shr_ended : (R₀ R₁ Q : RattleType) (ss : List (Slot 2)) → Kepts ss → Ended
mut_shr_ended R₀ R₁ Q ss ks = record { signature = record { lifetimes = 2; outlives = []; params = mut_slice_of (0 ∷ []) tt (plain (λ _. R₀)) ∷ shr_slice_of (1 ∷ []) tt (plain (λ _. R₁)) ∷ ss; result = plain (λ _. Q) }; kept = (yes, (yes, ks)) }

abbrev pub shr_mut_ended : (R₀ R₁ Q : RattleType) (ss : List (Slot 2)) → Kepts ss → Ended
shr_mut_ended R₀ R₁ Q ss ks = record { signature = record { lifetimes = 2; outlives = []; params = shr_slice_of (0 ∷ []) tt (plain (λ _. R₀)) ∷ mut_slice_of (1 ∷ []) tt (plain (λ _. R₁)) ∷ ss; result = plain (λ _. Q) }; kept = (yes, (yes, ks)) }

abbrev pub shr_shr_ended : (R₀ R₁ Q : RattleType) (ss : List (Slot 2)) → Kepts ss → Ended
shr_shr_ended R₀ R₁ Q ss ks = record { signature = record { lifetimes = 2; outlives = []; params = shr_slice_of (0 ∷ []) tt (plain (λ _. R₀)) ∷ shr_slice_of (1 ∷ []) tt (plain (λ _. R₁)) ∷ ss; result = plain (λ _. Q) }; kept = (yes, (yes, ks)) }

abbrev pub mut_mut_mut_ended : (R₀ R₁ R₂ Q : RattleType) (ss : List (Slot 3)) → Kepts ss → Ended
mut_mut_mut_ended R₀ R₁ R₂ Q ss ks = record { signature = record { lifetimes = 3; outlives = []; params = mut_slice_of (0 ∷ []) tt (plain (λ _. R₀)) ∷ mut_slice_of (1 ∷ []) tt (plain (λ _. R₁)) ∷ mut_slice_of (2 ∷ []) tt (plain (λ _. R₂)) ∷ ss; result = plain (λ _. Q) }; kept = (yes, (yes, (yes, ks))) }

abbrev pub mut_mut_shr_ended : (R₀ R₁ R₂ Q : RattleType) (ss : List (Slot 3)) → Kepts ss → Ended
mut_mut_shr_ended R₀ R₁ R₂ Q ss ks = record { signature = record { lifetimes = 3; outlives = []; params = mut_slice_of (0 ∷ []) tt (plain (λ _. R₀)) ∷ mut_slice_of (1 ∷ []) tt (plain (λ _. R₁)) ∷ shr_slice_of (2 ∷ []) tt (plain (λ _. R₂)) ∷ ss; result = plain (λ _. Q) }; kept = (yes, (yes, (yes, ks))) }

abbrev pub shr_shr_mut_ended : (R₀ R₁ R₂ Q : RattleType) (ss : List (Slot 3)) → Kepts ss → Ended
shr_shr_mut_ended R₀ R₁ R₂ Q ss ks = record { signature = record { lifetimes = 3; outlives = []; params = shr_slice_of (0 ∷ []) tt (plain (λ _. R₀)) ∷ shr_slice_of (1 ∷ []) tt (plain (λ _. R₁)) ∷ mut_slice_of (2 ∷ []) tt (plain (λ _. R₂)) ∷ ss; result = plain (λ _. Q) }; kept = (yes, (yes, (yes, ks))) }

abbrev pub shr_shr_mut_mut_ended : (R₀ R₁ R₂ R₃ Q : RattleType) (ss : List (Slot 4)) → Kepts ss → Ended
shr_shr_mut_mut_ended R₀ R₁ R₂ R₃ Q ss ks = record { signature = record { lifetimes = 4; outlives = []; params = shr_slice_of (0 ∷ []) tt (plain (λ _. R₀)) ∷ shr_slice_of (1 ∷ []) tt (plain (λ _. R₁)) ∷ mut_slice_of (2 ∷ []) tt (plain (λ _. R₂)) ∷ mut_slice_of (3 ∷ []) tt (plain (λ _. R₃)) ∷ ss; result = plain (λ _. Q) }; kept = (yes, (yes, (yes, (yes, ks)))) }

module _ {M : Type 1} {𝓤 : Ura M} {𝓛 : Logic 𝓤} {K : Type 0} {Γ : List (Item 𝓤)} {E : Env 𝓤 𝓛.H} {C : Calls 𝓤 𝓛.H} {f : Callee} {xs : List Operand} {Λ : Loops 𝓤 𝓛.H} {p : Post 𝓤 𝓛.H} {d : Place} {rest : Body} where
  open 𝓛 use {H}

  pub calls_plain : K → FmC 𝓤 H 𝓛.laws C → (Q : RattleType) (ss : List (Slot 0)) (ks : Kepts ss) (c : Clauses 𝓤 (plain_ended Q ss ks)) → Triple 𝓤 (C f) (contract_of 𝓛 (plain_ended Q ss ks) c)
      → (a : (κs : Lfts 0) → Denots (types_at ss κs)) (vss : (κs : Lfts 0) → Valss (types_at ss κs)) → ((κs : Lfts 0) → ent 𝓤 (emp 𝓤) (sem 𝓛 (owns (types_at ss κs) (a κs) (vss κs))))
      → (g : (κs : Lfts 0) → (c κs (a κs)).ghost) → ((κs : Lfts 0) → ent 𝓤 (emp 𝓤) ((c κs (a κs)).requires (g κs)))
      → (ψ : Q.Denot → Type 0) → ((κs : Lfts 0) (r : Q.Denot) (ws : Lasts (plain_ended Q ss ks) κs (a κs)) → ent 𝓤 ((c κs (a κs)).ensures (g κs) r (at_exit (plain_ended Q ss ks) κs (a κs) ws)) (fact 𝓤 (ψ r)))
      → ((κs : Lfts 0) → Opds K 𝓛 (raw ((contract_of 𝓛 (plain_ended Q ss ks) c).pre ((κs, tt, tt, (a κs), (vss κs)), g κs)) ∷ Γ) E xs (flat (types_at ss κs) (vss κs)))
      → ((u : Val) (r : Q.Denot) → ψ r → Is Q r (u ∷ []) → Seq K 𝓛 Γ (lands C Λ E d u rest p))
      → Seq K 𝓛 Γ (runs C Λ E (seq (call f xs d) rest) p)
  calls_plain t fm Q ss ks c known a vss own g req ψ ens os k =
      use0 𝓛 (raw (pre tt)) (goes tt) $
      calls_at t fm (contract_of 𝓛 (plain_ended Q ss ks) c) known (y tt) (os tt) (λ u.
      use1 𝓛 (later (some (λ (r : Q.Denot). (‵ ftrue ⊛ ‵ (Q.own_val r (u ∷ []))) ⊛ raw (ensured 𝓛 (plain_ended Q ss ks) c tt (args tt) (g tt) r)))) (id⊢ 𝓤 _) $ await t tt $ pick t (λ r. split t $ move t (1 ∷ []) $
      use1 𝓛 (some (λ (ws : Lasts (plain_ended Q ss ks) tt (args tt)). ‵ (lasts (plain_ended Q ss ks) tt (args tt) ws) ⊛ raw ((c tt (args tt)).ensures (g tt) r (at_exit (plain_ended Q ss ks) tt (args tt) ws)))) (id⊢ 𝓤 _) $ pick t (λ ws. split t $ move t (1 ∷ []) $
      use1 𝓛 (raw (fact 𝓤 (ψ r))) (ens tt r ws) $ heard t (ψ r) (λ e.
      drop t $ split t $ move t (1 ∷ []) $ peeks t Q (Is Q) (shows 𝓛 Q) r (u ∷ []) (λ is. drop t $ drop t $
      k u r e is)))))
    where
      args : (κs : Lfts 0) → Args (plain_ended Q ss ks).signature κs
      args κs = (a κs)

      y : (κs : Lfts 0) → (contract_of 𝓛 (plain_ended Q ss ks) c).Ghost
      y κs = ((κs, tt, tt, (a κs), (vss κs)), g κs)

      pre : (κs : Lfts 0) → SProp 𝓤
      pre κs = (contract_of 𝓛 (plain_ended Q ss ks) c).pre (y κs)

      goes : (κs : Lfts 0) → ent 𝓤 (emp 𝓤) (pre κs)
      goes κs =
          qed 𝓛 [] ∵
          use0 𝓛 (raw ((c κs (a κs)).requires (g κs))) (req κs) $ use0 𝓛 (‵ (owns (types_at ss κs) (a κs) (vss κs))) (own κs) $ nothing ! $ join ! $ frame ! $ done !

  pub calls_mut : K → FmC 𝓤 H 𝓛.laws C → (R₀ Q : RattleType) (ss : List (Slot 1)) (ks : Kepts ss) (c : Clauses 𝓤 (mut_ended R₀ Q ss ks)) → Triple 𝓤 (C f) (contract_of 𝓛 (mut_ended R₀ Q ss ks) c)
      → {κ₀ : Lft} {q₀ : Share} (b₀ o₀ : ℕ) (γ₀ : GName) (ys₀ : List R₀.Denot) (n₀ : ℕ) → length ys₀ ≡ n₀
      → (a : (κs : Lfts 1) → Denots (types_at ss κs)) (vss : (κs : Lfts 1) → Valss (types_at ss κs)) → ((κs : Lfts 1) → ent 𝓤 (emp 𝓤) (sem 𝓛 (owns (types_at ss κs) (a κs) (vss κs))))
      → (g : (κs : Lfts 1) (δ₀ : GName) → (c κs (ref b₀ o₀ δ₀ ys₀, a κs)).ghost) → ((κs : Lfts 1) (δ₀ : GName) → ent 𝓤 (emp 𝓤) ((c κs (ref b₀ o₀ δ₀ ys₀, a κs)).requires (g κs δ₀)))
      → (ψ : Q.Denot → List R₀.Denot → Type 0) → ((κs : Lfts 1) (δ₀ : GName) (r : Q.Denot) (ws : Lasts (mut_ended R₀ Q ss ks) κs (ref b₀ o₀ δ₀ ys₀, a κs)) → ent 𝓤 ((c κs (ref b₀ o₀ δ₀ ys₀, a κs)).ensures (g κs δ₀) r (at_exit (mut_ended R₀ Q ss ks) κs (ref b₀ o₀ δ₀ ys₀, a κs) ws)) (fact 𝓤 (ψ r ws.0)))
      → ((κs : Lfts 1) (δ₀ : GName) → Opds K 𝓛 (raw ((contract_of 𝓛 (mut_ended R₀ Q ss ks) c).pre ((κs, (full_share, tt), tt, (ref b₀ o₀ δ₀ ys₀, a κs), (slice_val (b₀, o₀) n₀ ∷ [], vss κs)), g κs δ₀)) ∷ ‵ (LentAgain R₀ κ₀ κs.0 q₀ γ₀ b₀ o₀ δ₀ ys₀) ∷ Γ) E xs (slice_val (b₀, o₀) n₀ ∷ flat (types_at ss κs) (vss κs)))
      → ((u : Val) (r : Q.Denot) (zs₀ : List R₀.Denot) → length zs₀ ≡ n₀ → ψ r zs₀ → Is Q r (u ∷ []) → Seq K 𝓛 (‵ (flft κ₀ q₀) ∷ ‵ ((MutSlice (named 0) κ₀ R₀).own_val (ref b₀ o₀ γ₀ zs₀) (slice_val (b₀, o₀) n₀ ∷ [])) ∷ Γ) (lands C Λ E d u rest p))
      → Seq K 𝓛 (‵ (flft κ₀ q₀) ∷ ‵ ((MutSlice (named 0) κ₀ R₀).own_val (ref b₀ o₀ γ₀ ys₀) (slice_val (b₀, o₀) n₀ ∷ [])) ∷ Γ) (runs C Λ E (seq (call f xs d) rest) p)
  calls_mut t fm R₀ Q ss ks c known {κ₀} {q₀} b₀ o₀ γ₀ ys₀ n₀ en₀ a vss own g req ψ ens os k =
      lend_mut t tt R₀ b₀ o₀ γ₀ ys₀ n₀ en₀ (λ ν₀ δ₀ room₀.
      move t (1 ∷ 0 ∷ []) $ move t (1 ∷ 0 ∷ []) $ fjoin t $ use1 𝓛 (raw (pre (ν₀ ∷ [], tt) δ₀)) (goes (ν₀ ∷ [], tt) δ₀) $
      calls_at t fm (contract_of 𝓛 (mut_ended R₀ Q ss ks) c) known (y (ν₀ ∷ [], tt) δ₀) (os (ν₀ ∷ [], tt) δ₀) (λ u.
      use1 𝓛 (later (some (λ (r : Q.Denot). ((‵ (flft (ν₀ ∷ []) full_share) ⊛ ‵ ftrue) ⊛ ‵ (Q.own_val r (u ∷ []))) ⊛ raw (ensured 𝓛 (mut_ended R₀ Q ss ks) c (ν₀ ∷ [], tt) (args (ν₀ ∷ [], tt) δ₀) (g (ν₀ ∷ [], tt) δ₀) r)))) (id⊢ 𝓤 _) $ await t tt $ pick t (λ r. split t $ move t (1 ∷ []) $
      use1 𝓛 (some (λ (ws : Lasts (mut_ended R₀ Q ss ks) (ν₀ ∷ [], tt) (args (ν₀ ∷ [], tt) δ₀)). ‵ (lasts (mut_ended R₀ Q ss ks) (ν₀ ∷ [], tt) (args (ν₀ ∷ [], tt) δ₀) ws) ⊛ raw ((c (ν₀ ∷ [], tt) (args (ν₀ ∷ [], tt) δ₀)).ensures (g (ν₀ ∷ [], tt) δ₀) r (at_exit (mut_ended R₀ Q ss ks) (ν₀ ∷ [], tt) (args (ν₀ ∷ [], tt) δ₀) ws)))) (id⊢ 𝓤 _) $ pick t (λ ws. split t $ move t (1 ∷ []) $
      use1 𝓛 (raw (fact 𝓤 (ψ r ws.0))) (ens (ν₀ ∷ [], tt) δ₀ r ws) $ heard t (ψ r ws.0) (λ e.
      fsplit t $ fsplit t $ fsplit t $ move t (1 ∷ []) $ feq_l t (λ l₀. move t (1 ∷ []) $ drop t $ move t (1 ∷ []) $ drop t $ move t (1 ∷ []) $ split t $ move t (1 ∷ []) $ peeks t Q (Is Q) (shows 𝓛 Q) r (u ∷ []) (λ is. drop t $ split t $ move t (1 ∷ []) $ drop t $
      move t (0 ∷ 2 ∷ 1 ∷ []) $ back_mut t tt R₀ b₀ o₀ γ₀ ys₀ n₀ en₀ ν₀ δ₀ room₀ ws.0 l₀ (k u r ws.0 (l₀ ∙ en₀) e is))))))))
    where
      args : (κs : Lfts 1) (δ₀ : GName) → Args (mut_ended R₀ Q ss ks).signature κs
      args κs δ₀ = (ref b₀ o₀ δ₀ ys₀, a κs)

      y : (κs : Lfts 1) (δ₀ : GName) → (contract_of 𝓛 (mut_ended R₀ Q ss ks) c).Ghost
      y κs δ₀ = ((κs, (full_share, tt), tt, (ref b₀ o₀ δ₀ ys₀, a κs), (slice_val (b₀, o₀) n₀ ∷ [], vss κs)), g κs δ₀)

      pre : (κs : Lfts 1) (δ₀ : GName) → SProp 𝓤
      pre κs δ₀ = (contract_of 𝓛 (mut_ended R₀ Q ss ks) c).pre (y κs δ₀)

      goes : (κs : Lfts 1) (δ₀ : GName) → ent 𝓤 (sem 𝓛 (fsep (flft κs.0 full_share) ((MutSlice (named 0) κs.0 R₀).own_val (ref b₀ o₀ δ₀ ys₀) (slice_val (b₀, o₀) n₀ ∷ [])))) (pre κs δ₀)
      goes κs δ₀ =
          qed 𝓛 (‵ (fsep (flft κs.0 full_share) ((MutSlice (named 0) κs.0 R₀).own_val (ref b₀ o₀ δ₀ ys₀) (slice_val (b₀, o₀) n₀ ∷ []))) ∷ []) ∵ fsplit ! $
          use0 𝓛 (raw ((c κs (ref b₀ o₀ δ₀ ys₀, a κs)).requires (g κs δ₀))) (req κs δ₀) $ use0 𝓛 (‵ (owns (types_at ss κs) (a κs) (vss κs))) (own κs) $ move ! (3 ∷ 0 ∷ []) $ fjoin ! $ nothing ! $ move ! (3 ∷ 0 ∷ []) $ join ! $ join ! $ frame ! $ done !

  pub calls_shr : K → FmC 𝓤 H 𝓛.laws C → (R₀ Q : RattleType) (ss : List (Slot 1)) (ks : Kepts ss) (c : Clauses 𝓤 (shr_ended R₀ Q ss ks)) → Triple 𝓤 (C f) (contract_of 𝓛 (shr_ended R₀ Q ss ks) c)
      → {κ₀ : Lft} {q₀ : Share} (b₀ o₀ : ℕ) (ys₀ : List R₀.Denot) (n₀ : ℕ) → length ys₀ ≡ n₀ → RowLaws R₀
      → (a : (κs : Lfts 1) → Denots (types_at ss κs)) (vss : (κs : Lfts 1) → Valss (types_at ss κs)) → ((κs : Lfts 1) → ent 𝓤 (emp 𝓤) (sem 𝓛 (owns (types_at ss κs) (a κs) (vss κs))))
      → (g : (κs : Lfts 1) → (c κs (seen b₀ o₀ ys₀, a κs)).ghost) → ((κs : Lfts 1) → ent 𝓤 (emp 𝓤) ((c κs (seen b₀ o₀ ys₀, a κs)).requires (g κs)))
      → (ψ : Q.Denot → Type 0) → ((κs : Lfts 1) (r : Q.Denot) (ws : Lasts (shr_ended R₀ Q ss ks) κs (seen b₀ o₀ ys₀, a κs)) → ent 𝓤 ((c κs (seen b₀ o₀ ys₀, a κs)).ensures (g κs) r (at_exit (shr_ended R₀ Q ss ks) κs (seen b₀ o₀ ys₀, a κs) ws)) (fact 𝓤 (ψ r)))
      → ((κs : Lfts 1) → Opds K 𝓛 (raw ((contract_of 𝓛 (shr_ended R₀ Q ss ks) c).pre ((κs, (q₀, tt), tt, (seen b₀ o₀ ys₀, a κs), (slice_val (b₀, o₀) n₀ ∷ [], vss κs)), g κs)) ∷ ‵ ((ShrSlice (named 0) κ₀ R₀).own_val (seen b₀ o₀ ys₀) (slice_val (b₀, o₀) n₀ ∷ [])) ∷ Γ) E xs (slice_val (b₀, o₀) n₀ ∷ flat (types_at ss κs) (vss κs)))
      → ((u : Val) (r : Q.Denot) → ψ r → Is Q r (u ∷ []) → Seq K 𝓛 (‵ (flft κ₀ q₀) ∷ ‵ ((ShrSlice (named 0) κ₀ R₀).own_val (seen b₀ o₀ ys₀) (slice_val (b₀, o₀) n₀ ∷ [])) ∷ Γ) (lands C Λ E d u rest p))
      → Seq K 𝓛 (‵ (flft κ₀ q₀) ∷ ‵ ((ShrSlice (named 0) κ₀ R₀).own_val (seen b₀ o₀ ys₀) (slice_val (b₀, o₀) n₀ ∷ [])) ∷ Γ) (runs C Λ E (seq (call f xs d) rest) p)
  calls_shr t fm R₀ Q ss ks c known {κ₀} {q₀} b₀ o₀ ys₀ n₀ en₀ laws₀ a vss own g req ψ ens os k =
      lend_shr t R₀ laws₀ (seen b₀ o₀ ys₀) (slice_val (b₀, o₀) n₀ ∷ []) (
      move t (1 ∷ 0 ∷ []) $ move t (1 ∷ 0 ∷ []) $ fjoin t $ use1 𝓛 (raw (pre (κ₀, tt))) (goes (κ₀, tt)) $
      calls_at t fm (contract_of 𝓛 (shr_ended R₀ Q ss ks) c) known (y (κ₀, tt)) (os (κ₀, tt)) (λ u.
      use1 𝓛 (later (some (λ (r : Q.Denot). ((‵ (flft κ₀ q₀) ⊛ ‵ ftrue) ⊛ ‵ (Q.own_val r (u ∷ []))) ⊛ raw (ensured 𝓛 (shr_ended R₀ Q ss ks) c (κ₀, tt) (args (κ₀, tt)) (g (κ₀, tt)) r)))) (id⊢ 𝓤 _) $ await t tt $ pick t (λ r. split t $ move t (1 ∷ []) $
      use1 𝓛 (some (λ (ws : Lasts (shr_ended R₀ Q ss ks) (κ₀, tt) (args (κ₀, tt))). ‵ (lasts (shr_ended R₀ Q ss ks) (κ₀, tt) (args (κ₀, tt)) ws) ⊛ raw ((c (κ₀, tt) (args (κ₀, tt))).ensures (g (κ₀, tt)) r (at_exit (shr_ended R₀ Q ss ks) (κ₀, tt) (args (κ₀, tt)) ws)))) (id⊢ 𝓤 _) $ pick t (λ ws. split t $ move t (1 ∷ []) $
      use1 𝓛 (raw (fact 𝓤 (ψ r))) (ens (κ₀, tt) r ws) $ heard t (ψ r) (λ e.
      fsplit t $ drop t $ drop t $ split t $ move t (1 ∷ []) $ peeks t Q (Is Q) (shows 𝓛 Q) r (u ∷ []) (λ is. drop t $ split t $ move t (1 ∷ []) $ drop t $
      k u r e is))))))
    where
      args : (κs : Lfts 1) → Args (shr_ended R₀ Q ss ks).signature κs
      args κs = (seen b₀ o₀ ys₀, a κs)

      y : (κs : Lfts 1) → (contract_of 𝓛 (shr_ended R₀ Q ss ks) c).Ghost
      y κs = ((κs, (q₀, tt), tt, (seen b₀ o₀ ys₀, a κs), (slice_val (b₀, o₀) n₀ ∷ [], vss κs)), g κs)

      pre : (κs : Lfts 1) → SProp 𝓤
      pre κs = (contract_of 𝓛 (shr_ended R₀ Q ss ks) c).pre (y κs)

      goes : (κs : Lfts 1) → ent 𝓤 (sem 𝓛 (fsep (flft κs.0 q₀) ((ShrSlice (named 0) κs.0 R₀).own_val (seen b₀ o₀ ys₀) (slice_val (b₀, o₀) n₀ ∷ [])))) (pre κs)
      goes κs =
          qed 𝓛 (‵ (fsep (flft κs.0 q₀) ((ShrSlice (named 0) κs.0 R₀).own_val (seen b₀ o₀ ys₀) (slice_val (b₀, o₀) n₀ ∷ []))) ∷ []) ∵ fsplit ! $
          use0 𝓛 (raw ((c κs (seen b₀ o₀ ys₀, a κs)).requires (g κs))) (req κs) $ use0 𝓛 (‵ (owns (types_at ss κs) (a κs) (vss κs))) (own κs) $ move ! (3 ∷ 0 ∷ []) $ fjoin ! $ nothing ! $ move ! (3 ∷ 0 ∷ []) $ join ! $ join ! $ frame ! $ done !

  pub calls_view : K → FmC 𝓤 H 𝓛.laws C → (R₀ Q : RattleType) (ss : List (Slot 1)) (ks : Kepts ss) (c : Clauses 𝓤 (shr_ended R₀ Q ss ks)) → Triple 𝓤 (C f) (contract_of 𝓛 (shr_ended R₀ Q ss ks) c)
      → {κ₀ : Lft} {q₀ : Share} (b₀ o₀ : ℕ) (γ₀ : GName) (ys₀ : List R₀.Denot) (n₀ : ℕ) → length ys₀ ≡ n₀ → Shares 𝓛 R₀ R₀.lives → Incl κ₀ R₀.lives
      → (a : (κs : Lfts 1) → Denots (types_at ss κs)) (vss : (κs : Lfts 1) → Valss (types_at ss κs)) → ((κs : Lfts 1) → ent 𝓤 (emp 𝓤) (sem 𝓛 (owns (types_at ss κs) (a κs) (vss κs))))
      → (g : (κs : Lfts 1) → (c κs (seen b₀ o₀ ys₀, a κs)).ghost) → ((κs : Lfts 1) → ent 𝓤 (emp 𝓤) ((c κs (seen b₀ o₀ ys₀, a κs)).requires (g κs)))
      → (ψ : Q.Denot → Type 0) → ((κs : Lfts 1) (r : Q.Denot) (ws : Lasts (shr_ended R₀ Q ss ks) κs (seen b₀ o₀ ys₀, a κs)) → ent 𝓤 ((c κs (seen b₀ o₀ ys₀, a κs)).ensures (g κs) r (at_exit (shr_ended R₀ Q ss ks) κs (seen b₀ o₀ ys₀, a κs) ws)) (fact 𝓤 (ψ r)))
      → ((κs : Lfts 1) → Opds K 𝓛 (raw ((contract_of 𝓛 (shr_ended R₀ Q ss ks) c).pre ((κs, (full_share, tt), tt, (seen b₀ o₀ ys₀, a κs), (slice_val (b₀, o₀) n₀ ∷ [], vss κs)), g κs)) ∷ ‵ (Viewed R₀ κ₀ κs.0 q₀ γ₀ b₀ o₀ ys₀) ∷ Γ) E xs (slice_val (b₀, o₀) n₀ ∷ flat (types_at ss κs) (vss κs)))
      → ((u : Val) (r : Q.Denot) → ψ r → Is Q r (u ∷ []) → Seq K 𝓛 (‵ (flft κ₀ q₀) ∷ ‵ ((MutSlice (named 0) κ₀ R₀).own_val (ref b₀ o₀ γ₀ ys₀) (slice_val (b₀, o₀) n₀ ∷ [])) ∷ Γ) (lands C Λ E d u rest p))
      → Seq K 𝓛 (‵ (flft κ₀ q₀) ∷ ‵ ((MutSlice (named 0) κ₀ R₀).own_val (ref b₀ o₀ γ₀ ys₀) (slice_val (b₀, o₀) n₀ ∷ [])) ∷ Γ) (runs C Λ E (seq (call f xs d) rest) p)
  calls_view t fm R₀ Q ss ks c known {κ₀} {q₀} b₀ o₀ γ₀ ys₀ n₀ en₀ shares₀ within₀ a vss own g req ψ ens os k =
      lend_view t tt R₀ b₀ o₀ γ₀ ys₀ n₀ en₀ shares₀ within₀ (λ ν₀ room₀.
      move t (1 ∷ 0 ∷ []) $ move t (1 ∷ 0 ∷ []) $ fjoin t $ use1 𝓛 (raw (pre (ν₀ ∷ [], tt))) (goes (ν₀ ∷ [], tt)) $
      calls_at t fm (contract_of 𝓛 (shr_ended R₀ Q ss ks) c) known (y (ν₀ ∷ [], tt)) (os (ν₀ ∷ [], tt)) (λ u.
      use1 𝓛 (later (some (λ (r : Q.Denot). ((‵ (flft (ν₀ ∷ []) full_share) ⊛ ‵ ftrue) ⊛ ‵ (Q.own_val r (u ∷ []))) ⊛ raw (ensured 𝓛 (shr_ended R₀ Q ss ks) c (ν₀ ∷ [], tt) (args (ν₀ ∷ [], tt)) (g (ν₀ ∷ [], tt)) r)))) (id⊢ 𝓤 _) $ await t tt $ pick t (λ r. split t $ move t (1 ∷ []) $
      use1 𝓛 (some (λ (ws : Lasts (shr_ended R₀ Q ss ks) (ν₀ ∷ [], tt) (args (ν₀ ∷ [], tt))). ‵ (lasts (shr_ended R₀ Q ss ks) (ν₀ ∷ [], tt) (args (ν₀ ∷ [], tt)) ws) ⊛ raw ((c (ν₀ ∷ [], tt) (args (ν₀ ∷ [], tt))).ensures (g (ν₀ ∷ [], tt)) r (at_exit (shr_ended R₀ Q ss ks) (ν₀ ∷ [], tt) (args (ν₀ ∷ [], tt)) ws)))) (id⊢ 𝓤 _) $ pick t (λ ws. split t $ move t (1 ∷ []) $
      use1 𝓛 (raw (fact 𝓤 (ψ r))) (ens (ν₀ ∷ [], tt) r ws) $ heard t (ψ r) (λ e.
      fsplit t $ drop t $ drop t $ split t $ move t (1 ∷ []) $ peeks t Q (Is Q) (shows 𝓛 Q) r (u ∷ []) (λ is. drop t $ split t $ move t (1 ∷ []) $ drop t $
      back_view t tt R₀ b₀ o₀ γ₀ ys₀ n₀ en₀ ν₀ room₀ (k u r e is)))))))
    where
      args : (κs : Lfts 1) → Args (shr_ended R₀ Q ss ks).signature κs
      args κs = (seen b₀ o₀ ys₀, a κs)

      y : (κs : Lfts 1) → (contract_of 𝓛 (shr_ended R₀ Q ss ks) c).Ghost
      y κs = ((κs, (full_share, tt), tt, (seen b₀ o₀ ys₀, a κs), (slice_val (b₀, o₀) n₀ ∷ [], vss κs)), g κs)

      pre : (κs : Lfts 1) → SProp 𝓤
      pre κs = (contract_of 𝓛 (shr_ended R₀ Q ss ks) c).pre (y κs)

      goes : (κs : Lfts 1) → ent 𝓤 (sem 𝓛 (fsep (flft κs.0 full_share) ((ShrSlice (named 0) κs.0 R₀).own_val (seen b₀ o₀ ys₀) (slice_val (b₀, o₀) n₀ ∷ [])))) (pre κs)
      goes κs =
          qed 𝓛 (‵ (fsep (flft κs.0 full_share) ((ShrSlice (named 0) κs.0 R₀).own_val (seen b₀ o₀ ys₀) (slice_val (b₀, o₀) n₀ ∷ []))) ∷ []) ∵ fsplit ! $
          use0 𝓛 (raw ((c κs (seen b₀ o₀ ys₀, a κs)).requires (g κs))) (req κs) $ use0 𝓛 (‵ (owns (types_at ss κs) (a κs) (vss κs))) (own κs) $ move ! (3 ∷ 0 ∷ []) $ fjoin ! $ nothing ! $ move ! (3 ∷ 0 ∷ []) $ join ! $ join ! $ frame ! $ done !

  pub calls_front_front : K → FmC 𝓤 H 𝓛.laws C → (R₀ R₁ Q : RattleType) (ss : List (Slot 2)) (ks : Kepts ss) (c : Clauses 𝓤 (mut_mut_ended R₀ R₁ Q ss ks)) → Triple 𝓤 (C f) (contract_of 𝓛 (mut_mut_ended R₀ R₁ Q ss ks) c)
      → {κ₀ : Lft} {q₀ : Share} (b₀ o₀ : ℕ) (γ₀ : GName) (ys₀ : List R₀.Denot) (n₀ : ℕ) → length ys₀ ≡ n₀ → (m₀ : ℕ) → m₀ ≤ n₀
      → {κ₁ : Lft} {q₁ : Share} (b₁ o₁ : ℕ) (γ₁ : GName) (ys₁ : List R₁.Denot) (n₁ : ℕ) → length ys₁ ≡ n₁ → (m₁ : ℕ) → m₁ ≤ n₁
      → (a : (κs : Lfts 2) → Denots (types_at ss κs)) (vss : (κs : Lfts 2) → Valss (types_at ss κs)) → ((κs : Lfts 2) → ent 𝓤 (emp 𝓤) (sem 𝓛 (owns (types_at ss κs) (a κs) (vss κs))))
      → (g : (κs : Lfts 2) (δ₀ δ₁ : GName) → (c κs (ref b₀ o₀ δ₀ (front m₀ ys₀), (ref b₁ o₁ δ₁ (front m₁ ys₁), a κs))).ghost) → ((κs : Lfts 2) (δ₀ δ₁ : GName) → ent 𝓤 (emp 𝓤) ((c κs (ref b₀ o₀ δ₀ (front m₀ ys₀), (ref b₁ o₁ δ₁ (front m₁ ys₁), a κs))).requires (g κs δ₀ δ₁)))
      → (ψ : Q.Denot → List R₀.Denot → List R₁.Denot → Type 0) → ((κs : Lfts 2) (δ₀ δ₁ : GName) (r : Q.Denot) (ws : Lasts (mut_mut_ended R₀ R₁ Q ss ks) κs (ref b₀ o₀ δ₀ (front m₀ ys₀), (ref b₁ o₁ δ₁ (front m₁ ys₁), a κs))) → ent 𝓤 ((c κs (ref b₀ o₀ δ₀ (front m₀ ys₀), (ref b₁ o₁ δ₁ (front m₁ ys₁), a κs))).ensures (g κs δ₀ δ₁) r (at_exit (mut_mut_ended R₀ R₁ Q ss ks) κs (ref b₀ o₀ δ₀ (front m₀ ys₀), (ref b₁ o₁ δ₁ (front m₁ ys₁), a κs)) ws)) (fact 𝓤 (ψ r ws.0 ws.1.0)))
      → ((κs : Lfts 2) (δ₀ δ₁ : GName) → Opds K 𝓛 (raw ((contract_of 𝓛 (mut_mut_ended R₀ R₁ Q ss ks) c).pre ((κs, (full_share, (full_share, tt)), tt, (ref b₀ o₀ δ₀ (front m₀ ys₀), (ref b₁ o₁ δ₁ (front m₁ ys₁), a κs)), (slice_val (b₀, o₀) m₀ ∷ [], (slice_val (b₁, o₁) m₁ ∷ [], vss κs))), g κs δ₀ δ₁)) ∷ ‵ ftrue ∷ ‵ (LentFront R₀ κ₀ κs.0 q₀ γ₀ b₀ o₀ δ₀ m₀ ys₀) ∷ ‵ (LentFront R₁ κ₁ κs.1.0 q₁ γ₁ b₁ o₁ δ₁ m₁ ys₁) ∷ Γ) E xs (slice_val (b₀, o₀) m₀ ∷ slice_val (b₁, o₁) m₁ ∷ flat (types_at ss κs) (vss κs)))
      → ((u : Val) (r : Q.Denot) (zs₀ : List R₀.Denot) (zs₁ : List R₁.Denot) → length zs₀ ≡ m₀ → length zs₁ ≡ m₁ → ψ r zs₀ zs₁ → Is Q r (u ∷ []) → Seq K 𝓛 (‵ (flft κ₀ q₀) ∷ ‵ ((MutSlice (named 0) κ₀ R₀).own_val (ref b₀ o₀ γ₀ (refronted m₀ ys₀ zs₀)) (slice_val (b₀, o₀) n₀ ∷ [])) ∷ ‵ (flft κ₁ q₁) ∷ ‵ ((MutSlice (named 0) κ₁ R₁).own_val (ref b₁ o₁ γ₁ (refronted m₁ ys₁ zs₁)) (slice_val (b₁, o₁) n₁ ∷ [])) ∷ Γ) (lands C Λ E d u rest p))
      → Seq K 𝓛 (‵ (flft κ₀ q₀) ∷ ‵ ((MutSlice (named 0) κ₀ R₀).own_val (ref b₀ o₀ γ₀ ys₀) (slice_val (b₀, o₀) n₀ ∷ [])) ∷ ‵ (flft κ₁ q₁) ∷ ‵ ((MutSlice (named 0) κ₁ R₁).own_val (ref b₁ o₁ γ₁ ys₁) (slice_val (b₁, o₁) n₁ ∷ [])) ∷ Γ) (runs C Λ E (seq (call f xs d) rest) p)
  calls_front_front t fm R₀ R₁ Q ss ks c known {κ₀} {q₀} b₀ o₀ γ₀ ys₀ n₀ en₀ m₀ le₀ {κ₁} {q₁} b₁ o₁ γ₁ ys₁ n₁ en₁ m₁ le₁ a vss own g req ψ ens os k =
      lend_front t tt R₀ b₀ o₀ γ₀ ys₀ n₀ en₀ m₀ le₀ (λ ν₀ δ₀ room₀.
      move t (3 ∷ 4 ∷ []) $ lend_front t tt R₁ b₁ o₁ γ₁ ys₁ n₁ en₁ m₁ le₁ (λ ν₁ δ₁ room₁.
      move t (1 ∷ 4 ∷ 0 ∷ 3 ∷ []) $ move t (1 ∷ 0 ∷ []) $ fjoin t $ move t (1 ∷ 0 ∷ []) $ fjoin t $ move t (1 ∷ 0 ∷ []) $ fjoin t $ use1 𝓛 (raw (pre (ν₀ ∷ [], (ν₁ ∷ [], tt)) δ₀ δ₁)) (goes (ν₀ ∷ [], (ν₁ ∷ [], tt)) δ₀ δ₁) $ nothing t $ move t (1 ∷ 0 ∷ 3 ∷ 2 ∷ []) $
      calls_at t fm (contract_of 𝓛 (mut_mut_ended R₀ R₁ Q ss ks) c) known (y (ν₀ ∷ [], (ν₁ ∷ [], tt)) δ₀ δ₁) (os (ν₀ ∷ [], (ν₁ ∷ [], tt)) δ₀ δ₁) (λ u.
      use1 𝓛 (later (some (λ (r : Q.Denot). ((‵ (flft (ν₀ ∷ []) full_share) ⊛ (‵ (flft (ν₁ ∷ []) full_share) ⊛ ‵ ftrue)) ⊛ ‵ (Q.own_val r (u ∷ []))) ⊛ raw (ensured 𝓛 (mut_mut_ended R₀ R₁ Q ss ks) c (ν₀ ∷ [], (ν₁ ∷ [], tt)) (args (ν₀ ∷ [], (ν₁ ∷ [], tt)) δ₀ δ₁) (g (ν₀ ∷ [], (ν₁ ∷ [], tt)) δ₀ δ₁) r)))) (id⊢ 𝓤 _) $ await t tt $ pick t (λ r. split t $ move t (1 ∷ []) $
      use1 𝓛 (some (λ (ws : Lasts (mut_mut_ended R₀ R₁ Q ss ks) (ν₀ ∷ [], (ν₁ ∷ [], tt)) (args (ν₀ ∷ [], (ν₁ ∷ [], tt)) δ₀ δ₁)). ‵ (lasts (mut_mut_ended R₀ R₁ Q ss ks) (ν₀ ∷ [], (ν₁ ∷ [], tt)) (args (ν₀ ∷ [], (ν₁ ∷ [], tt)) δ₀ δ₁) ws) ⊛ raw ((c (ν₀ ∷ [], (ν₁ ∷ [], tt)) (args (ν₀ ∷ [], (ν₁ ∷ [], tt)) δ₀ δ₁)).ensures (g (ν₀ ∷ [], (ν₁ ∷ [], tt)) δ₀ δ₁) r (at_exit (mut_mut_ended R₀ R₁ Q ss ks) (ν₀ ∷ [], (ν₁ ∷ [], tt)) (args (ν₀ ∷ [], (ν₁ ∷ [], tt)) δ₀ δ₁) ws)))) (id⊢ 𝓤 _) $ pick t (λ ws. split t $ move t (1 ∷ []) $
      use1 𝓛 (raw (fact 𝓤 (ψ r ws.0 ws.1.0))) (ens (ν₀ ∷ [], (ν₁ ∷ [], tt)) δ₀ δ₁ r ws) $ heard t (ψ r ws.0 ws.1.0) (λ e.
      fsplit t $ fsplit t $ fsplit t $ move t (1 ∷ []) $ feq_l t (λ l₀. move t (1 ∷ []) $ drop t $ move t (1 ∷ []) $ fsplit t $ fsplit t $ fsplit t $ move t (1 ∷ []) $ feq_l t (λ l₁. move t (1 ∷ []) $ drop t $ move t (1 ∷ []) $ drop t $ move t (2 ∷ []) $ split t $ move t (1 ∷ []) $ peeks t Q (Is Q) (shows 𝓛 Q) r (u ∷ []) (λ is. drop t $ split t $ move t (1 ∷ []) $ split t $ move t (1 ∷ []) $ drop t $
      move t (1 ∷ 5 ∷ 3 ∷ []) $ back_front t tt R₀ b₀ o₀ γ₀ ys₀ n₀ en₀ m₀ ν₀ δ₀ room₀ ws.0 l₀ (move t (2 ∷ 5 ∷ 3 ∷ []) $ back_front t tt R₁ b₁ o₁ γ₁ ys₁ n₁ en₁ m₁ ν₁ δ₁ room₁ ws.1.0 l₁ (move t (4 ∷ []) $ drop t $ move t (2 ∷ 3 ∷ 0 ∷ 1 ∷ []) $ k u r ws.0 ws.1.0 (l₀ ∙ front_size m₀ ys₀ n₀ en₀ le₀) (l₁ ∙ front_size m₁ ys₁ n₁ en₁ le₁) e is)))))))))))
    where
      args : (κs : Lfts 2) (δ₀ δ₁ : GName) → Args (mut_mut_ended R₀ R₁ Q ss ks).signature κs
      args κs δ₀ δ₁ = (ref b₀ o₀ δ₀ (front m₀ ys₀), (ref b₁ o₁ δ₁ (front m₁ ys₁), a κs))

      y : (κs : Lfts 2) (δ₀ δ₁ : GName) → (contract_of 𝓛 (mut_mut_ended R₀ R₁ Q ss ks) c).Ghost
      y κs δ₀ δ₁ = ((κs, (full_share, (full_share, tt)), tt, (ref b₀ o₀ δ₀ (front m₀ ys₀), (ref b₁ o₁ δ₁ (front m₁ ys₁), a κs)), (slice_val (b₀, o₀) m₀ ∷ [], (slice_val (b₁, o₁) m₁ ∷ [], vss κs))), g κs δ₀ δ₁)

      pre : (κs : Lfts 2) (δ₀ δ₁ : GName) → SProp 𝓤
      pre κs δ₀ δ₁ = (contract_of 𝓛 (mut_mut_ended R₀ R₁ Q ss ks) c).pre (y κs δ₀ δ₁)

      goes : (κs : Lfts 2) (δ₀ δ₁ : GName) → ent 𝓤 (sem 𝓛 (fsep (flft κs.0 full_share) (fsep (flft κs.1.0 full_share) (fsep ((MutSlice (named 0) κs.0 R₀).own_val (ref b₀ o₀ δ₀ (front m₀ ys₀)) (slice_val (b₀, o₀) m₀ ∷ [])) ((MutSlice (named 0) κs.1.0 R₁).own_val (ref b₁ o₁ δ₁ (front m₁ ys₁)) (slice_val (b₁, o₁) m₁ ∷ [])))))) (pre κs δ₀ δ₁)
      goes κs δ₀ δ₁ =
          qed 𝓛 (‵ (fsep (flft κs.0 full_share) (fsep (flft κs.1.0 full_share) (fsep ((MutSlice (named 0) κs.0 R₀).own_val (ref b₀ o₀ δ₀ (front m₀ ys₀)) (slice_val (b₀, o₀) m₀ ∷ [])) ((MutSlice (named 0) κs.1.0 R₁).own_val (ref b₁ o₁ δ₁ (front m₁ ys₁)) (slice_val (b₁, o₁) m₁ ∷ []))))) ∷ []) ∵ fsplit ! $ move ! (1 ∷ []) $ fsplit ! $ move ! (1 ∷ []) $ fsplit ! $
          use0 𝓛 (raw ((c κs (ref b₀ o₀ δ₀ (front m₀ ys₀), (ref b₁ o₁ δ₁ (front m₁ ys₁), a κs))).requires (g κs δ₀ δ₁))) (req κs δ₀ δ₁) $ use0 𝓛 (‵ (owns (types_at ss κs) (a κs) (vss κs))) (own κs) $ move ! (3 ∷ 0 ∷ []) $ fjoin ! $ move ! (2 ∷ 0 ∷ []) $ fjoin ! $ nothing ! $ move ! (3 ∷ 0 ∷ []) $ join ! $ move ! (3 ∷ 0 ∷ []) $ join ! $ join ! $ frame ! $ done !

  pub calls_mut_mut : K → FmC 𝓤 H 𝓛.laws C → (R₀ R₁ Q : RattleType) (ss : List (Slot 2)) (ks : Kepts ss) (c : Clauses 𝓤 (mut_mut_ended R₀ R₁ Q ss ks)) → Triple 𝓤 (C f) (contract_of 𝓛 (mut_mut_ended R₀ R₁ Q ss ks) c)
      → {κ₀ : Lft} {q₀ : Share} (b₀ o₀ : ℕ) (γ₀ : GName) (ys₀ : List R₀.Denot) (n₀ : ℕ) → length ys₀ ≡ n₀
      → {κ₁ : Lft} {q₁ : Share} (b₁ o₁ : ℕ) (γ₁ : GName) (ys₁ : List R₁.Denot) (n₁ : ℕ) → length ys₁ ≡ n₁
      → (a : (κs : Lfts 2) → Denots (types_at ss κs)) (vss : (κs : Lfts 2) → Valss (types_at ss κs)) → ((κs : Lfts 2) → ent 𝓤 (emp 𝓤) (sem 𝓛 (owns (types_at ss κs) (a κs) (vss κs))))
      → (g : (κs : Lfts 2) (δ₀ δ₁ : GName) → (c κs (ref b₀ o₀ δ₀ ys₀, (ref b₁ o₁ δ₁ ys₁, a κs))).ghost) → ((κs : Lfts 2) (δ₀ δ₁ : GName) → ent 𝓤 (emp 𝓤) ((c κs (ref b₀ o₀ δ₀ ys₀, (ref b₁ o₁ δ₁ ys₁, a κs))).requires (g κs δ₀ δ₁)))
      → (ψ : Q.Denot → List R₀.Denot → List R₁.Denot → Type 0) → ((κs : Lfts 2) (δ₀ δ₁ : GName) (r : Q.Denot) (ws : Lasts (mut_mut_ended R₀ R₁ Q ss ks) κs (ref b₀ o₀ δ₀ ys₀, (ref b₁ o₁ δ₁ ys₁, a κs))) → ent 𝓤 ((c κs (ref b₀ o₀ δ₀ ys₀, (ref b₁ o₁ δ₁ ys₁, a κs))).ensures (g κs δ₀ δ₁) r (at_exit (mut_mut_ended R₀ R₁ Q ss ks) κs (ref b₀ o₀ δ₀ ys₀, (ref b₁ o₁ δ₁ ys₁, a κs)) ws)) (fact 𝓤 (ψ r ws.0 ws.1.0)))
      → ((κs : Lfts 2) (δ₀ δ₁ : GName) → Opds K 𝓛 (raw ((contract_of 𝓛 (mut_mut_ended R₀ R₁ Q ss ks) c).pre ((κs, (full_share, (full_share, tt)), tt, (ref b₀ o₀ δ₀ ys₀, (ref b₁ o₁ δ₁ ys₁, a κs)), (slice_val (b₀, o₀) n₀ ∷ [], (slice_val (b₁, o₁) n₁ ∷ [], vss κs))), g κs δ₀ δ₁)) ∷ ‵ ftrue ∷ ‵ (LentAgain R₀ κ₀ κs.0 q₀ γ₀ b₀ o₀ δ₀ ys₀) ∷ ‵ (LentAgain R₁ κ₁ κs.1.0 q₁ γ₁ b₁ o₁ δ₁ ys₁) ∷ Γ) E xs (slice_val (b₀, o₀) n₀ ∷ slice_val (b₁, o₁) n₁ ∷ flat (types_at ss κs) (vss κs)))
      → ((u : Val) (r : Q.Denot) (zs₀ : List R₀.Denot) (zs₁ : List R₁.Denot) → length zs₀ ≡ n₀ → length zs₁ ≡ n₁ → ψ r zs₀ zs₁ → Is Q r (u ∷ []) → Seq K 𝓛 (‵ (flft κ₀ q₀) ∷ ‵ ((MutSlice (named 0) κ₀ R₀).own_val (ref b₀ o₀ γ₀ zs₀) (slice_val (b₀, o₀) n₀ ∷ [])) ∷ ‵ (flft κ₁ q₁) ∷ ‵ ((MutSlice (named 0) κ₁ R₁).own_val (ref b₁ o₁ γ₁ zs₁) (slice_val (b₁, o₁) n₁ ∷ [])) ∷ Γ) (lands C Λ E d u rest p))
      → Seq K 𝓛 (‵ (flft κ₀ q₀) ∷ ‵ ((MutSlice (named 0) κ₀ R₀).own_val (ref b₀ o₀ γ₀ ys₀) (slice_val (b₀, o₀) n₀ ∷ [])) ∷ ‵ (flft κ₁ q₁) ∷ ‵ ((MutSlice (named 0) κ₁ R₁).own_val (ref b₁ o₁ γ₁ ys₁) (slice_val (b₁, o₁) n₁ ∷ [])) ∷ Γ) (runs C Λ E (seq (call f xs d) rest) p)
  calls_mut_mut t fm R₀ R₁ Q ss ks c known {κ₀} {q₀} b₀ o₀ γ₀ ys₀ n₀ en₀ {κ₁} {q₁} b₁ o₁ γ₁ ys₁ n₁ en₁ a vss own g req ψ ens os k =
      lend_mut t tt R₀ b₀ o₀ γ₀ ys₀ n₀ en₀ (λ ν₀ δ₀ room₀.
      move t (3 ∷ 4 ∷ []) $ lend_mut t tt R₁ b₁ o₁ γ₁ ys₁ n₁ en₁ (λ ν₁ δ₁ room₁.
      move t (1 ∷ 4 ∷ 0 ∷ 3 ∷ []) $ move t (1 ∷ 0 ∷ []) $ fjoin t $ move t (1 ∷ 0 ∷ []) $ fjoin t $ move t (1 ∷ 0 ∷ []) $ fjoin t $ use1 𝓛 (raw (pre (ν₀ ∷ [], (ν₁ ∷ [], tt)) δ₀ δ₁)) (goes (ν₀ ∷ [], (ν₁ ∷ [], tt)) δ₀ δ₁) $ nothing t $ move t (1 ∷ 0 ∷ 3 ∷ 2 ∷ []) $
      calls_at t fm (contract_of 𝓛 (mut_mut_ended R₀ R₁ Q ss ks) c) known (y (ν₀ ∷ [], (ν₁ ∷ [], tt)) δ₀ δ₁) (os (ν₀ ∷ [], (ν₁ ∷ [], tt)) δ₀ δ₁) (λ u.
      use1 𝓛 (later (some (λ (r : Q.Denot). ((‵ (flft (ν₀ ∷ []) full_share) ⊛ (‵ (flft (ν₁ ∷ []) full_share) ⊛ ‵ ftrue)) ⊛ ‵ (Q.own_val r (u ∷ []))) ⊛ raw (ensured 𝓛 (mut_mut_ended R₀ R₁ Q ss ks) c (ν₀ ∷ [], (ν₁ ∷ [], tt)) (args (ν₀ ∷ [], (ν₁ ∷ [], tt)) δ₀ δ₁) (g (ν₀ ∷ [], (ν₁ ∷ [], tt)) δ₀ δ₁) r)))) (id⊢ 𝓤 _) $ await t tt $ pick t (λ r. split t $ move t (1 ∷ []) $
      use1 𝓛 (some (λ (ws : Lasts (mut_mut_ended R₀ R₁ Q ss ks) (ν₀ ∷ [], (ν₁ ∷ [], tt)) (args (ν₀ ∷ [], (ν₁ ∷ [], tt)) δ₀ δ₁)). ‵ (lasts (mut_mut_ended R₀ R₁ Q ss ks) (ν₀ ∷ [], (ν₁ ∷ [], tt)) (args (ν₀ ∷ [], (ν₁ ∷ [], tt)) δ₀ δ₁) ws) ⊛ raw ((c (ν₀ ∷ [], (ν₁ ∷ [], tt)) (args (ν₀ ∷ [], (ν₁ ∷ [], tt)) δ₀ δ₁)).ensures (g (ν₀ ∷ [], (ν₁ ∷ [], tt)) δ₀ δ₁) r (at_exit (mut_mut_ended R₀ R₁ Q ss ks) (ν₀ ∷ [], (ν₁ ∷ [], tt)) (args (ν₀ ∷ [], (ν₁ ∷ [], tt)) δ₀ δ₁) ws)))) (id⊢ 𝓤 _) $ pick t (λ ws. split t $ move t (1 ∷ []) $
      use1 𝓛 (raw (fact 𝓤 (ψ r ws.0 ws.1.0))) (ens (ν₀ ∷ [], (ν₁ ∷ [], tt)) δ₀ δ₁ r ws) $ heard t (ψ r ws.0 ws.1.0) (λ e.
      fsplit t $ fsplit t $ fsplit t $ move t (1 ∷ []) $ feq_l t (λ l₀. move t (1 ∷ []) $ drop t $ move t (1 ∷ []) $ fsplit t $ fsplit t $ fsplit t $ move t (1 ∷ []) $ feq_l t (λ l₁. move t (1 ∷ []) $ drop t $ move t (1 ∷ []) $ drop t $ move t (2 ∷ []) $ split t $ move t (1 ∷ []) $ peeks t Q (Is Q) (shows 𝓛 Q) r (u ∷ []) (λ is. drop t $ split t $ move t (1 ∷ []) $ split t $ move t (1 ∷ []) $ drop t $
      move t (1 ∷ 5 ∷ 3 ∷ []) $ back_mut t tt R₀ b₀ o₀ γ₀ ys₀ n₀ en₀ ν₀ δ₀ room₀ ws.0 l₀ (move t (2 ∷ 5 ∷ 3 ∷ []) $ back_mut t tt R₁ b₁ o₁ γ₁ ys₁ n₁ en₁ ν₁ δ₁ room₁ ws.1.0 l₁ (move t (4 ∷ []) $ drop t $ move t (2 ∷ 3 ∷ 0 ∷ 1 ∷ []) $ k u r ws.0 ws.1.0 (l₀ ∙ en₀) (l₁ ∙ en₁) e is)))))))))))
    where
      args : (κs : Lfts 2) (δ₀ δ₁ : GName) → Args (mut_mut_ended R₀ R₁ Q ss ks).signature κs
      args κs δ₀ δ₁ = (ref b₀ o₀ δ₀ ys₀, (ref b₁ o₁ δ₁ ys₁, a κs))

      y : (κs : Lfts 2) (δ₀ δ₁ : GName) → (contract_of 𝓛 (mut_mut_ended R₀ R₁ Q ss ks) c).Ghost
      y κs δ₀ δ₁ = ((κs, (full_share, (full_share, tt)), tt, (ref b₀ o₀ δ₀ ys₀, (ref b₁ o₁ δ₁ ys₁, a κs)), (slice_val (b₀, o₀) n₀ ∷ [], (slice_val (b₁, o₁) n₁ ∷ [], vss κs))), g κs δ₀ δ₁)

      pre : (κs : Lfts 2) (δ₀ δ₁ : GName) → SProp 𝓤
      pre κs δ₀ δ₁ = (contract_of 𝓛 (mut_mut_ended R₀ R₁ Q ss ks) c).pre (y κs δ₀ δ₁)

      goes : (κs : Lfts 2) (δ₀ δ₁ : GName) → ent 𝓤 (sem 𝓛 (fsep (flft κs.0 full_share) (fsep (flft κs.1.0 full_share) (fsep ((MutSlice (named 0) κs.0 R₀).own_val (ref b₀ o₀ δ₀ ys₀) (slice_val (b₀, o₀) n₀ ∷ [])) ((MutSlice (named 0) κs.1.0 R₁).own_val (ref b₁ o₁ δ₁ ys₁) (slice_val (b₁, o₁) n₁ ∷ [])))))) (pre κs δ₀ δ₁)
      goes κs δ₀ δ₁ =
          qed 𝓛 (‵ (fsep (flft κs.0 full_share) (fsep (flft κs.1.0 full_share) (fsep ((MutSlice (named 0) κs.0 R₀).own_val (ref b₀ o₀ δ₀ ys₀) (slice_val (b₀, o₀) n₀ ∷ [])) ((MutSlice (named 0) κs.1.0 R₁).own_val (ref b₁ o₁ δ₁ ys₁) (slice_val (b₁, o₁) n₁ ∷ []))))) ∷ []) ∵ fsplit ! $ move ! (1 ∷ []) $ fsplit ! $ move ! (1 ∷ []) $ fsplit ! $
          use0 𝓛 (raw ((c κs (ref b₀ o₀ δ₀ ys₀, (ref b₁ o₁ δ₁ ys₁, a κs))).requires (g κs δ₀ δ₁))) (req κs δ₀ δ₁) $ use0 𝓛 (‵ (owns (types_at ss κs) (a κs) (vss κs))) (own κs) $ move ! (3 ∷ 0 ∷ []) $ fjoin ! $ move ! (2 ∷ 0 ∷ []) $ fjoin ! $ nothing ! $ move ! (3 ∷ 0 ∷ []) $ join ! $ move ! (3 ∷ 0 ∷ []) $ join ! $ join ! $ frame ! $ done !

  pub calls_mut_shr : K → FmC 𝓤 H 𝓛.laws C → (R₀ R₁ Q : RattleType) (ss : List (Slot 2)) (ks : Kepts ss) (c : Clauses 𝓤 (mut_shr_ended R₀ R₁ Q ss ks)) → Triple 𝓤 (C f) (contract_of 𝓛 (mut_shr_ended R₀ R₁ Q ss ks) c)
      → {κ₀ : Lft} {q₀ : Share} (b₀ o₀ : ℕ) (γ₀ : GName) (ys₀ : List R₀.Denot) (n₀ : ℕ) → length ys₀ ≡ n₀
      → {κ₁ : Lft} {q₁ : Share} (b₁ o₁ : ℕ) (ys₁ : List R₁.Denot) (n₁ : ℕ) → length ys₁ ≡ n₁ → RowLaws R₁
      → (a : (κs : Lfts 2) → Denots (types_at ss κs)) (vss : (κs : Lfts 2) → Valss (types_at ss κs)) → ((κs : Lfts 2) → ent 𝓤 (emp 𝓤) (sem 𝓛 (owns (types_at ss κs) (a κs) (vss κs))))
      → (g : (κs : Lfts 2) (δ₀ : GName) → (c κs (ref b₀ o₀ δ₀ ys₀, (seen b₁ o₁ ys₁, a κs))).ghost) → ((κs : Lfts 2) (δ₀ : GName) → ent 𝓤 (emp 𝓤) ((c κs (ref b₀ o₀ δ₀ ys₀, (seen b₁ o₁ ys₁, a κs))).requires (g κs δ₀)))
      → (ψ : Q.Denot → List R₀.Denot → Type 0) → ((κs : Lfts 2) (δ₀ : GName) (r : Q.Denot) (ws : Lasts (mut_shr_ended R₀ R₁ Q ss ks) κs (ref b₀ o₀ δ₀ ys₀, (seen b₁ o₁ ys₁, a κs))) → ent 𝓤 ((c κs (ref b₀ o₀ δ₀ ys₀, (seen b₁ o₁ ys₁, a κs))).ensures (g κs δ₀) r (at_exit (mut_shr_ended R₀ R₁ Q ss ks) κs (ref b₀ o₀ δ₀ ys₀, (seen b₁ o₁ ys₁, a κs)) ws)) (fact 𝓤 (ψ r ws.0)))
      → ((κs : Lfts 2) (δ₀ : GName) → Opds K 𝓛 (raw ((contract_of 𝓛 (mut_shr_ended R₀ R₁ Q ss ks) c).pre ((κs, (full_share, (q₁, tt)), tt, (ref b₀ o₀ δ₀ ys₀, (seen b₁ o₁ ys₁, a κs)), (slice_val (b₀, o₀) n₀ ∷ [], (slice_val (b₁, o₁) n₁ ∷ [], vss κs))), g κs δ₀)) ∷ ‵ ftrue ∷ ‵ (LentAgain R₀ κ₀ κs.0 q₀ γ₀ b₀ o₀ δ₀ ys₀) ∷ ‵ ((ShrSlice (named 0) κ₁ R₁).own_val (seen b₁ o₁ ys₁) (slice_val (b₁, o₁) n₁ ∷ [])) ∷ Γ) E xs (slice_val (b₀, o₀) n₀ ∷ slice_val (b₁, o₁) n₁ ∷ flat (types_at ss κs) (vss κs)))
      → ((u : Val) (r : Q.Denot) (zs₀ : List R₀.Denot) → length zs₀ ≡ n₀ → ψ r zs₀ → Is Q r (u ∷ []) → Seq K 𝓛 (‵ (flft κ₀ q₀) ∷ ‵ ((MutSlice (named 0) κ₀ R₀).own_val (ref b₀ o₀ γ₀ zs₀) (slice_val (b₀, o₀) n₀ ∷ [])) ∷ ‵ (flft κ₁ q₁) ∷ ‵ ((ShrSlice (named 0) κ₁ R₁).own_val (seen b₁ o₁ ys₁) (slice_val (b₁, o₁) n₁ ∷ [])) ∷ Γ) (lands C Λ E d u rest p))
      → Seq K 𝓛 (‵ (flft κ₀ q₀) ∷ ‵ ((MutSlice (named 0) κ₀ R₀).own_val (ref b₀ o₀ γ₀ ys₀) (slice_val (b₀, o₀) n₀ ∷ [])) ∷ ‵ (flft κ₁ q₁) ∷ ‵ ((ShrSlice (named 0) κ₁ R₁).own_val (seen b₁ o₁ ys₁) (slice_val (b₁, o₁) n₁ ∷ [])) ∷ Γ) (runs C Λ E (seq (call f xs d) rest) p)
  calls_mut_shr t fm R₀ R₁ Q ss ks c known {κ₀} {q₀} b₀ o₀ γ₀ ys₀ n₀ en₀ {κ₁} {q₁} b₁ o₁ ys₁ n₁ en₁ laws₁ a vss own g req ψ ens os k =
      lend_mut t tt R₀ b₀ o₀ γ₀ ys₀ n₀ en₀ (λ ν₀ δ₀ room₀.
      move t (3 ∷ 4 ∷ []) $ lend_shr t R₁ laws₁ (seen b₁ o₁ ys₁) (slice_val (b₁, o₁) n₁ ∷ []) (
      move t (1 ∷ 4 ∷ 0 ∷ 3 ∷ []) $ move t (1 ∷ 0 ∷ []) $ fjoin t $ move t (1 ∷ 0 ∷ []) $ fjoin t $ move t (1 ∷ 0 ∷ []) $ fjoin t $ use1 𝓛 (raw (pre (ν₀ ∷ [], (κ₁, tt)) δ₀)) (goes (ν₀ ∷ [], (κ₁, tt)) δ₀) $ nothing t $ move t (1 ∷ 0 ∷ 3 ∷ 2 ∷ []) $
      calls_at t fm (contract_of 𝓛 (mut_shr_ended R₀ R₁ Q ss ks) c) known (y (ν₀ ∷ [], (κ₁, tt)) δ₀) (os (ν₀ ∷ [], (κ₁, tt)) δ₀) (λ u.
      use1 𝓛 (later (some (λ (r : Q.Denot). ((‵ (flft (ν₀ ∷ []) full_share) ⊛ (‵ (flft κ₁ q₁) ⊛ ‵ ftrue)) ⊛ ‵ (Q.own_val r (u ∷ []))) ⊛ raw (ensured 𝓛 (mut_shr_ended R₀ R₁ Q ss ks) c (ν₀ ∷ [], (κ₁, tt)) (args (ν₀ ∷ [], (κ₁, tt)) δ₀) (g (ν₀ ∷ [], (κ₁, tt)) δ₀) r)))) (id⊢ 𝓤 _) $ await t tt $ pick t (λ r. split t $ move t (1 ∷ []) $
      use1 𝓛 (some (λ (ws : Lasts (mut_shr_ended R₀ R₁ Q ss ks) (ν₀ ∷ [], (κ₁, tt)) (args (ν₀ ∷ [], (κ₁, tt)) δ₀)). ‵ (lasts (mut_shr_ended R₀ R₁ Q ss ks) (ν₀ ∷ [], (κ₁, tt)) (args (ν₀ ∷ [], (κ₁, tt)) δ₀) ws) ⊛ raw ((c (ν₀ ∷ [], (κ₁, tt)) (args (ν₀ ∷ [], (κ₁, tt)) δ₀)).ensures (g (ν₀ ∷ [], (κ₁, tt)) δ₀) r (at_exit (mut_shr_ended R₀ R₁ Q ss ks) (ν₀ ∷ [], (κ₁, tt)) (args (ν₀ ∷ [], (κ₁, tt)) δ₀) ws)))) (id⊢ 𝓤 _) $ pick t (λ ws. split t $ move t (1 ∷ []) $
      use1 𝓛 (raw (fact 𝓤 (ψ r ws.0))) (ens (ν₀ ∷ [], (κ₁, tt)) δ₀ r ws) $ heard t (ψ r ws.0) (λ e.
      fsplit t $ fsplit t $ fsplit t $ move t (1 ∷ []) $ feq_l t (λ l₀. move t (1 ∷ []) $ drop t $ move t (1 ∷ []) $ fsplit t $ drop t $ drop t $ move t (1 ∷ []) $ split t $ move t (1 ∷ []) $ peeks t Q (Is Q) (shows 𝓛 Q) r (u ∷ []) (λ is. drop t $ split t $ move t (1 ∷ []) $ split t $ move t (1 ∷ []) $ drop t $
      move t (1 ∷ 4 ∷ 2 ∷ []) $ back_mut t tt R₀ b₀ o₀ γ₀ ys₀ n₀ en₀ ν₀ δ₀ room₀ ws.0 l₀ (move t (3 ∷ []) $ drop t $ k u r ws.0 (l₀ ∙ en₀) e is)))))))))
    where
      args : (κs : Lfts 2) (δ₀ : GName) → Args (mut_shr_ended R₀ R₁ Q ss ks).signature κs
      args κs δ₀ = (ref b₀ o₀ δ₀ ys₀, (seen b₁ o₁ ys₁, a κs))

      y : (κs : Lfts 2) (δ₀ : GName) → (contract_of 𝓛 (mut_shr_ended R₀ R₁ Q ss ks) c).Ghost
      y κs δ₀ = ((κs, (full_share, (q₁, tt)), tt, (ref b₀ o₀ δ₀ ys₀, (seen b₁ o₁ ys₁, a κs)), (slice_val (b₀, o₀) n₀ ∷ [], (slice_val (b₁, o₁) n₁ ∷ [], vss κs))), g κs δ₀)

      pre : (κs : Lfts 2) (δ₀ : GName) → SProp 𝓤
      pre κs δ₀ = (contract_of 𝓛 (mut_shr_ended R₀ R₁ Q ss ks) c).pre (y κs δ₀)

      goes : (κs : Lfts 2) (δ₀ : GName) → ent 𝓤 (sem 𝓛 (fsep (flft κs.0 full_share) (fsep (flft κs.1.0 q₁) (fsep ((MutSlice (named 0) κs.0 R₀).own_val (ref b₀ o₀ δ₀ ys₀) (slice_val (b₀, o₀) n₀ ∷ [])) ((ShrSlice (named 0) κs.1.0 R₁).own_val (seen b₁ o₁ ys₁) (slice_val (b₁, o₁) n₁ ∷ [])))))) (pre κs δ₀)
      goes κs δ₀ =
          qed 𝓛 (‵ (fsep (flft κs.0 full_share) (fsep (flft κs.1.0 q₁) (fsep ((MutSlice (named 0) κs.0 R₀).own_val (ref b₀ o₀ δ₀ ys₀) (slice_val (b₀, o₀) n₀ ∷ [])) ((ShrSlice (named 0) κs.1.0 R₁).own_val (seen b₁ o₁ ys₁) (slice_val (b₁, o₁) n₁ ∷ []))))) ∷ []) ∵ fsplit ! $ move ! (1 ∷ []) $ fsplit ! $ move ! (1 ∷ []) $ fsplit ! $
          use0 𝓛 (raw ((c κs (ref b₀ o₀ δ₀ ys₀, (seen b₁ o₁ ys₁, a κs))).requires (g κs δ₀))) (req κs δ₀) $ use0 𝓛 (‵ (owns (types_at ss κs) (a κs) (vss κs))) (own κs) $ move ! (3 ∷ 0 ∷ []) $ fjoin ! $ move ! (2 ∷ 0 ∷ []) $ fjoin ! $ nothing ! $ move ! (3 ∷ 0 ∷ []) $ join ! $ move ! (3 ∷ 0 ∷ []) $ join ! $ join ! $ frame ! $ done !

  pub calls_shr_mut : K → FmC 𝓤 H 𝓛.laws C → (R₀ R₁ Q : RattleType) (ss : List (Slot 2)) (ks : Kepts ss) (c : Clauses 𝓤 (shr_mut_ended R₀ R₁ Q ss ks)) → Triple 𝓤 (C f) (contract_of 𝓛 (shr_mut_ended R₀ R₁ Q ss ks) c)
      → {κ₀ : Lft} {q₀ : Share} (b₀ o₀ : ℕ) (ys₀ : List R₀.Denot) (n₀ : ℕ) → length ys₀ ≡ n₀ → RowLaws R₀
      → {κ₁ : Lft} {q₁ : Share} (b₁ o₁ : ℕ) (γ₁ : GName) (ys₁ : List R₁.Denot) (n₁ : ℕ) → length ys₁ ≡ n₁
      → (a : (κs : Lfts 2) → Denots (types_at ss κs)) (vss : (κs : Lfts 2) → Valss (types_at ss κs)) → ((κs : Lfts 2) → ent 𝓤 (emp 𝓤) (sem 𝓛 (owns (types_at ss κs) (a κs) (vss κs))))
      → (g : (κs : Lfts 2) (δ₁ : GName) → (c κs (seen b₀ o₀ ys₀, (ref b₁ o₁ δ₁ ys₁, a κs))).ghost) → ((κs : Lfts 2) (δ₁ : GName) → ent 𝓤 (emp 𝓤) ((c κs (seen b₀ o₀ ys₀, (ref b₁ o₁ δ₁ ys₁, a κs))).requires (g κs δ₁)))
      → (ψ : Q.Denot → List R₁.Denot → Type 0) → ((κs : Lfts 2) (δ₁ : GName) (r : Q.Denot) (ws : Lasts (shr_mut_ended R₀ R₁ Q ss ks) κs (seen b₀ o₀ ys₀, (ref b₁ o₁ δ₁ ys₁, a κs))) → ent 𝓤 ((c κs (seen b₀ o₀ ys₀, (ref b₁ o₁ δ₁ ys₁, a κs))).ensures (g κs δ₁) r (at_exit (shr_mut_ended R₀ R₁ Q ss ks) κs (seen b₀ o₀ ys₀, (ref b₁ o₁ δ₁ ys₁, a κs)) ws)) (fact 𝓤 (ψ r ws.1.0)))
      → ((κs : Lfts 2) (δ₁ : GName) → Opds K 𝓛 (raw ((contract_of 𝓛 (shr_mut_ended R₀ R₁ Q ss ks) c).pre ((κs, (q₀, (full_share, tt)), tt, (seen b₀ o₀ ys₀, (ref b₁ o₁ δ₁ ys₁, a κs)), (slice_val (b₀, o₀) n₀ ∷ [], (slice_val (b₁, o₁) n₁ ∷ [], vss κs))), g κs δ₁)) ∷ ‵ ftrue ∷ ‵ ((ShrSlice (named 0) κ₀ R₀).own_val (seen b₀ o₀ ys₀) (slice_val (b₀, o₀) n₀ ∷ [])) ∷ ‵ (LentAgain R₁ κ₁ κs.1.0 q₁ γ₁ b₁ o₁ δ₁ ys₁) ∷ Γ) E xs (slice_val (b₀, o₀) n₀ ∷ slice_val (b₁, o₁) n₁ ∷ flat (types_at ss κs) (vss κs)))
      → ((u : Val) (r : Q.Denot) (zs₁ : List R₁.Denot) → length zs₁ ≡ n₁ → ψ r zs₁ → Is Q r (u ∷ []) → Seq K 𝓛 (‵ (flft κ₀ q₀) ∷ ‵ ((ShrSlice (named 0) κ₀ R₀).own_val (seen b₀ o₀ ys₀) (slice_val (b₀, o₀) n₀ ∷ [])) ∷ ‵ (flft κ₁ q₁) ∷ ‵ ((MutSlice (named 0) κ₁ R₁).own_val (ref b₁ o₁ γ₁ zs₁) (slice_val (b₁, o₁) n₁ ∷ [])) ∷ Γ) (lands C Λ E d u rest p))
      → Seq K 𝓛 (‵ (flft κ₀ q₀) ∷ ‵ ((ShrSlice (named 0) κ₀ R₀).own_val (seen b₀ o₀ ys₀) (slice_val (b₀, o₀) n₀ ∷ [])) ∷ ‵ (flft κ₁ q₁) ∷ ‵ ((MutSlice (named 0) κ₁ R₁).own_val (ref b₁ o₁ γ₁ ys₁) (slice_val (b₁, o₁) n₁ ∷ [])) ∷ Γ) (runs C Λ E (seq (call f xs d) rest) p)
  calls_shr_mut t fm R₀ R₁ Q ss ks c known {κ₀} {q₀} b₀ o₀ ys₀ n₀ en₀ laws₀ {κ₁} {q₁} b₁ o₁ γ₁ ys₁ n₁ en₁ a vss own g req ψ ens os k =
      lend_shr t R₀ laws₀ (seen b₀ o₀ ys₀) (slice_val (b₀, o₀) n₀ ∷ []) (
      move t (3 ∷ 4 ∷ []) $ lend_mut t tt R₁ b₁ o₁ γ₁ ys₁ n₁ en₁ (λ ν₁ δ₁ room₁.
      move t (1 ∷ 4 ∷ 0 ∷ 3 ∷ []) $ move t (1 ∷ 0 ∷ []) $ fjoin t $ move t (1 ∷ 0 ∷ []) $ fjoin t $ move t (1 ∷ 0 ∷ []) $ fjoin t $ use1 𝓛 (raw (pre (κ₀, (ν₁ ∷ [], tt)) δ₁)) (goes (κ₀, (ν₁ ∷ [], tt)) δ₁) $ nothing t $ move t (1 ∷ 0 ∷ 3 ∷ 2 ∷ []) $
      calls_at t fm (contract_of 𝓛 (shr_mut_ended R₀ R₁ Q ss ks) c) known (y (κ₀, (ν₁ ∷ [], tt)) δ₁) (os (κ₀, (ν₁ ∷ [], tt)) δ₁) (λ u.
      use1 𝓛 (later (some (λ (r : Q.Denot). ((‵ (flft κ₀ q₀) ⊛ (‵ (flft (ν₁ ∷ []) full_share) ⊛ ‵ ftrue)) ⊛ ‵ (Q.own_val r (u ∷ []))) ⊛ raw (ensured 𝓛 (shr_mut_ended R₀ R₁ Q ss ks) c (κ₀, (ν₁ ∷ [], tt)) (args (κ₀, (ν₁ ∷ [], tt)) δ₁) (g (κ₀, (ν₁ ∷ [], tt)) δ₁) r)))) (id⊢ 𝓤 _) $ await t tt $ pick t (λ r. split t $ move t (1 ∷ []) $
      use1 𝓛 (some (λ (ws : Lasts (shr_mut_ended R₀ R₁ Q ss ks) (κ₀, (ν₁ ∷ [], tt)) (args (κ₀, (ν₁ ∷ [], tt)) δ₁)). ‵ (lasts (shr_mut_ended R₀ R₁ Q ss ks) (κ₀, (ν₁ ∷ [], tt)) (args (κ₀, (ν₁ ∷ [], tt)) δ₁) ws) ⊛ raw ((c (κ₀, (ν₁ ∷ [], tt)) (args (κ₀, (ν₁ ∷ [], tt)) δ₁)).ensures (g (κ₀, (ν₁ ∷ [], tt)) δ₁) r (at_exit (shr_mut_ended R₀ R₁ Q ss ks) (κ₀, (ν₁ ∷ [], tt)) (args (κ₀, (ν₁ ∷ [], tt)) δ₁) ws)))) (id⊢ 𝓤 _) $ pick t (λ ws. split t $ move t (1 ∷ []) $
      use1 𝓛 (raw (fact 𝓤 (ψ r ws.1.0))) (ens (κ₀, (ν₁ ∷ [], tt)) δ₁ r ws) $ heard t (ψ r ws.1.0) (λ e.
      fsplit t $ drop t $ fsplit t $ fsplit t $ fsplit t $ move t (1 ∷ []) $ feq_l t (λ l₁. move t (1 ∷ []) $ drop t $ move t (1 ∷ []) $ drop t $ move t (1 ∷ []) $ split t $ move t (1 ∷ []) $ peeks t Q (Is Q) (shows 𝓛 Q) r (u ∷ []) (λ is. drop t $ split t $ move t (1 ∷ []) $ split t $ move t (1 ∷ []) $ drop t $
      move t (0 ∷ 5 ∷ 2 ∷ []) $ back_mut t tt R₁ b₁ o₁ γ₁ ys₁ n₁ en₁ ν₁ δ₁ room₁ ws.1.0 l₁ (move t (3 ∷ []) $ drop t $ move t (2 ∷ 3 ∷ 0 ∷ 1 ∷ []) $ k u r ws.1.0 (l₁ ∙ en₁) e is)))))))))
    where
      args : (κs : Lfts 2) (δ₁ : GName) → Args (shr_mut_ended R₀ R₁ Q ss ks).signature κs
      args κs δ₁ = (seen b₀ o₀ ys₀, (ref b₁ o₁ δ₁ ys₁, a κs))

      y : (κs : Lfts 2) (δ₁ : GName) → (contract_of 𝓛 (shr_mut_ended R₀ R₁ Q ss ks) c).Ghost
      y κs δ₁ = ((κs, (q₀, (full_share, tt)), tt, (seen b₀ o₀ ys₀, (ref b₁ o₁ δ₁ ys₁, a κs)), (slice_val (b₀, o₀) n₀ ∷ [], (slice_val (b₁, o₁) n₁ ∷ [], vss κs))), g κs δ₁)

      pre : (κs : Lfts 2) (δ₁ : GName) → SProp 𝓤
      pre κs δ₁ = (contract_of 𝓛 (shr_mut_ended R₀ R₁ Q ss ks) c).pre (y κs δ₁)

      goes : (κs : Lfts 2) (δ₁ : GName) → ent 𝓤 (sem 𝓛 (fsep (flft κs.0 q₀) (fsep (flft κs.1.0 full_share) (fsep ((ShrSlice (named 0) κs.0 R₀).own_val (seen b₀ o₀ ys₀) (slice_val (b₀, o₀) n₀ ∷ [])) ((MutSlice (named 0) κs.1.0 R₁).own_val (ref b₁ o₁ δ₁ ys₁) (slice_val (b₁, o₁) n₁ ∷ [])))))) (pre κs δ₁)
      goes κs δ₁ =
          qed 𝓛 (‵ (fsep (flft κs.0 q₀) (fsep (flft κs.1.0 full_share) (fsep ((ShrSlice (named 0) κs.0 R₀).own_val (seen b₀ o₀ ys₀) (slice_val (b₀, o₀) n₀ ∷ [])) ((MutSlice (named 0) κs.1.0 R₁).own_val (ref b₁ o₁ δ₁ ys₁) (slice_val (b₁, o₁) n₁ ∷ []))))) ∷ []) ∵ fsplit ! $ move ! (1 ∷ []) $ fsplit ! $ move ! (1 ∷ []) $ fsplit ! $
          use0 𝓛 (raw ((c κs (seen b₀ o₀ ys₀, (ref b₁ o₁ δ₁ ys₁, a κs))).requires (g κs δ₁))) (req κs δ₁) $ use0 𝓛 (‵ (owns (types_at ss κs) (a κs) (vss κs))) (own κs) $ move ! (3 ∷ 0 ∷ []) $ fjoin ! $ move ! (2 ∷ 0 ∷ []) $ fjoin ! $ nothing ! $ move ! (3 ∷ 0 ∷ []) $ join ! $ move ! (3 ∷ 0 ∷ []) $ join ! $ join ! $ frame ! $ done !

  pub calls_shr_shr : K → FmC 𝓤 H 𝓛.laws C → (R₀ R₁ Q : RattleType) (ss : List (Slot 2)) (ks : Kepts ss) (c : Clauses 𝓤 (shr_shr_ended R₀ R₁ Q ss ks)) → Triple 𝓤 (C f) (contract_of 𝓛 (shr_shr_ended R₀ R₁ Q ss ks) c)
      → {κ₀ : Lft} {q₀ : Share} (b₀ o₀ : ℕ) (ys₀ : List R₀.Denot) (n₀ : ℕ) → length ys₀ ≡ n₀ → RowLaws R₀
      → {κ₁ : Lft} {q₁ : Share} (b₁ o₁ : ℕ) (ys₁ : List R₁.Denot) (n₁ : ℕ) → length ys₁ ≡ n₁ → RowLaws R₁
      → (a : (κs : Lfts 2) → Denots (types_at ss κs)) (vss : (κs : Lfts 2) → Valss (types_at ss κs)) → ((κs : Lfts 2) → ent 𝓤 (emp 𝓤) (sem 𝓛 (owns (types_at ss κs) (a κs) (vss κs))))
      → (g : (κs : Lfts 2) → (c κs (seen b₀ o₀ ys₀, (seen b₁ o₁ ys₁, a κs))).ghost) → ((κs : Lfts 2) → ent 𝓤 (emp 𝓤) ((c κs (seen b₀ o₀ ys₀, (seen b₁ o₁ ys₁, a κs))).requires (g κs)))
      → (ψ : Q.Denot → Type 0) → ((κs : Lfts 2) (r : Q.Denot) (ws : Lasts (shr_shr_ended R₀ R₁ Q ss ks) κs (seen b₀ o₀ ys₀, (seen b₁ o₁ ys₁, a κs))) → ent 𝓤 ((c κs (seen b₀ o₀ ys₀, (seen b₁ o₁ ys₁, a κs))).ensures (g κs) r (at_exit (shr_shr_ended R₀ R₁ Q ss ks) κs (seen b₀ o₀ ys₀, (seen b₁ o₁ ys₁, a κs)) ws)) (fact 𝓤 (ψ r)))
      → ((κs : Lfts 2) → Opds K 𝓛 (raw ((contract_of 𝓛 (shr_shr_ended R₀ R₁ Q ss ks) c).pre ((κs, (q₀, (q₁, tt)), tt, (seen b₀ o₀ ys₀, (seen b₁ o₁ ys₁, a κs)), (slice_val (b₀, o₀) n₀ ∷ [], (slice_val (b₁, o₁) n₁ ∷ [], vss κs))), g κs)) ∷ ‵ ftrue ∷ ‵ ((ShrSlice (named 0) κ₀ R₀).own_val (seen b₀ o₀ ys₀) (slice_val (b₀, o₀) n₀ ∷ [])) ∷ ‵ ((ShrSlice (named 0) κ₁ R₁).own_val (seen b₁ o₁ ys₁) (slice_val (b₁, o₁) n₁ ∷ [])) ∷ Γ) E xs (slice_val (b₀, o₀) n₀ ∷ slice_val (b₁, o₁) n₁ ∷ flat (types_at ss κs) (vss κs)))
      → ((u : Val) (r : Q.Denot) → ψ r → Is Q r (u ∷ []) → Seq K 𝓛 (‵ (flft κ₀ q₀) ∷ ‵ ((ShrSlice (named 0) κ₀ R₀).own_val (seen b₀ o₀ ys₀) (slice_val (b₀, o₀) n₀ ∷ [])) ∷ ‵ (flft κ₁ q₁) ∷ ‵ ((ShrSlice (named 0) κ₁ R₁).own_val (seen b₁ o₁ ys₁) (slice_val (b₁, o₁) n₁ ∷ [])) ∷ Γ) (lands C Λ E d u rest p))
      → Seq K 𝓛 (‵ (flft κ₀ q₀) ∷ ‵ ((ShrSlice (named 0) κ₀ R₀).own_val (seen b₀ o₀ ys₀) (slice_val (b₀, o₀) n₀ ∷ [])) ∷ ‵ (flft κ₁ q₁) ∷ ‵ ((ShrSlice (named 0) κ₁ R₁).own_val (seen b₁ o₁ ys₁) (slice_val (b₁, o₁) n₁ ∷ [])) ∷ Γ) (runs C Λ E (seq (call f xs d) rest) p)
  calls_shr_shr t fm R₀ R₁ Q ss ks c known {κ₀} {q₀} b₀ o₀ ys₀ n₀ en₀ laws₀ {κ₁} {q₁} b₁ o₁ ys₁ n₁ en₁ laws₁ a vss own g req ψ ens os k =
      lend_shr t R₀ laws₀ (seen b₀ o₀ ys₀) (slice_val (b₀, o₀) n₀ ∷ []) (
      move t (3 ∷ 4 ∷ []) $ lend_shr t R₁ laws₁ (seen b₁ o₁ ys₁) (slice_val (b₁, o₁) n₁ ∷ []) (
      move t (1 ∷ 4 ∷ 0 ∷ 3 ∷ []) $ move t (1 ∷ 0 ∷ []) $ fjoin t $ move t (1 ∷ 0 ∷ []) $ fjoin t $ move t (1 ∷ 0 ∷ []) $ fjoin t $ use1 𝓛 (raw (pre (κ₀, (κ₁, tt)))) (goes (κ₀, (κ₁, tt))) $ nothing t $ move t (1 ∷ 0 ∷ 3 ∷ 2 ∷ []) $
      calls_at t fm (contract_of 𝓛 (shr_shr_ended R₀ R₁ Q ss ks) c) known (y (κ₀, (κ₁, tt))) (os (κ₀, (κ₁, tt))) (λ u.
      use1 𝓛 (later (some (λ (r : Q.Denot). ((‵ (flft κ₀ q₀) ⊛ (‵ (flft κ₁ q₁) ⊛ ‵ ftrue)) ⊛ ‵ (Q.own_val r (u ∷ []))) ⊛ raw (ensured 𝓛 (shr_shr_ended R₀ R₁ Q ss ks) c (κ₀, (κ₁, tt)) (args (κ₀, (κ₁, tt))) (g (κ₀, (κ₁, tt))) r)))) (id⊢ 𝓤 _) $ await t tt $ pick t (λ r. split t $ move t (1 ∷ []) $
      use1 𝓛 (some (λ (ws : Lasts (shr_shr_ended R₀ R₁ Q ss ks) (κ₀, (κ₁, tt)) (args (κ₀, (κ₁, tt)))). ‵ (lasts (shr_shr_ended R₀ R₁ Q ss ks) (κ₀, (κ₁, tt)) (args (κ₀, (κ₁, tt))) ws) ⊛ raw ((c (κ₀, (κ₁, tt)) (args (κ₀, (κ₁, tt)))).ensures (g (κ₀, (κ₁, tt))) r (at_exit (shr_shr_ended R₀ R₁ Q ss ks) (κ₀, (κ₁, tt)) (args (κ₀, (κ₁, tt))) ws)))) (id⊢ 𝓤 _) $ pick t (λ ws. split t $ move t (1 ∷ []) $
      use1 𝓛 (raw (fact 𝓤 (ψ r))) (ens (κ₀, (κ₁, tt)) r ws) $ heard t (ψ r) (λ e.
      fsplit t $ drop t $ fsplit t $ drop t $ drop t $ split t $ move t (1 ∷ []) $ peeks t Q (Is Q) (shows 𝓛 Q) r (u ∷ []) (λ is. drop t $ split t $ move t (1 ∷ []) $ split t $ move t (1 ∷ []) $ drop t $
      move t (2 ∷ []) $ drop t $ move t (1 ∷ 2 ∷ 0 ∷ 3 ∷ []) $ k u r e is)))))))
    where
      args : (κs : Lfts 2) → Args (shr_shr_ended R₀ R₁ Q ss ks).signature κs
      args κs = (seen b₀ o₀ ys₀, (seen b₁ o₁ ys₁, a κs))

      y : (κs : Lfts 2) → (contract_of 𝓛 (shr_shr_ended R₀ R₁ Q ss ks) c).Ghost
      y κs = ((κs, (q₀, (q₁, tt)), tt, (seen b₀ o₀ ys₀, (seen b₁ o₁ ys₁, a κs)), (slice_val (b₀, o₀) n₀ ∷ [], (slice_val (b₁, o₁) n₁ ∷ [], vss κs))), g κs)

      pre : (κs : Lfts 2) → SProp 𝓤
      pre κs = (contract_of 𝓛 (shr_shr_ended R₀ R₁ Q ss ks) c).pre (y κs)

      goes : (κs : Lfts 2) → ent 𝓤 (sem 𝓛 (fsep (flft κs.0 q₀) (fsep (flft κs.1.0 q₁) (fsep ((ShrSlice (named 0) κs.0 R₀).own_val (seen b₀ o₀ ys₀) (slice_val (b₀, o₀) n₀ ∷ [])) ((ShrSlice (named 0) κs.1.0 R₁).own_val (seen b₁ o₁ ys₁) (slice_val (b₁, o₁) n₁ ∷ [])))))) (pre κs)
      goes κs =
          qed 𝓛 (‵ (fsep (flft κs.0 q₀) (fsep (flft κs.1.0 q₁) (fsep ((ShrSlice (named 0) κs.0 R₀).own_val (seen b₀ o₀ ys₀) (slice_val (b₀, o₀) n₀ ∷ [])) ((ShrSlice (named 0) κs.1.0 R₁).own_val (seen b₁ o₁ ys₁) (slice_val (b₁, o₁) n₁ ∷ []))))) ∷ []) ∵ fsplit ! $ move ! (1 ∷ []) $ fsplit ! $ move ! (1 ∷ []) $ fsplit ! $
          use0 𝓛 (raw ((c κs (seen b₀ o₀ ys₀, (seen b₁ o₁ ys₁, a κs))).requires (g κs))) (req κs) $ use0 𝓛 (‵ (owns (types_at ss κs) (a κs) (vss κs))) (own κs) $ move ! (3 ∷ 0 ∷ []) $ fjoin ! $ move ! (2 ∷ 0 ∷ []) $ fjoin ! $ nothing ! $ move ! (3 ∷ 0 ∷ []) $ join ! $ move ! (3 ∷ 0 ∷ []) $ join ! $ join ! $ frame ! $ done !

  pub calls_view_mut : K → FmC 𝓤 H 𝓛.laws C → (R₀ R₁ Q : RattleType) (ss : List (Slot 2)) (ks : Kepts ss) (c : Clauses 𝓤 (shr_mut_ended R₀ R₁ Q ss ks)) → Triple 𝓤 (C f) (contract_of 𝓛 (shr_mut_ended R₀ R₁ Q ss ks) c)
      → {κ₀ : Lft} {q₀ : Share} (b₀ o₀ : ℕ) (γ₀ : GName) (ys₀ : List R₀.Denot) (n₀ : ℕ) → length ys₀ ≡ n₀ → Shares 𝓛 R₀ R₀.lives → Incl κ₀ R₀.lives
      → {κ₁ : Lft} {q₁ : Share} (b₁ o₁ : ℕ) (γ₁ : GName) (ys₁ : List R₁.Denot) (n₁ : ℕ) → length ys₁ ≡ n₁
      → (a : (κs : Lfts 2) → Denots (types_at ss κs)) (vss : (κs : Lfts 2) → Valss (types_at ss κs)) → ((κs : Lfts 2) → ent 𝓤 (emp 𝓤) (sem 𝓛 (owns (types_at ss κs) (a κs) (vss κs))))
      → (g : (κs : Lfts 2) (δ₁ : GName) → (c κs (seen b₀ o₀ ys₀, (ref b₁ o₁ δ₁ ys₁, a κs))).ghost) → ((κs : Lfts 2) (δ₁ : GName) → ent 𝓤 (emp 𝓤) ((c κs (seen b₀ o₀ ys₀, (ref b₁ o₁ δ₁ ys₁, a κs))).requires (g κs δ₁)))
      → (ψ : Q.Denot → List R₁.Denot → Type 0) → ((κs : Lfts 2) (δ₁ : GName) (r : Q.Denot) (ws : Lasts (shr_mut_ended R₀ R₁ Q ss ks) κs (seen b₀ o₀ ys₀, (ref b₁ o₁ δ₁ ys₁, a κs))) → ent 𝓤 ((c κs (seen b₀ o₀ ys₀, (ref b₁ o₁ δ₁ ys₁, a κs))).ensures (g κs δ₁) r (at_exit (shr_mut_ended R₀ R₁ Q ss ks) κs (seen b₀ o₀ ys₀, (ref b₁ o₁ δ₁ ys₁, a κs)) ws)) (fact 𝓤 (ψ r ws.1.0)))
      → ((κs : Lfts 2) (δ₁ : GName) → Opds K 𝓛 (raw ((contract_of 𝓛 (shr_mut_ended R₀ R₁ Q ss ks) c).pre ((κs, (full_share, (full_share, tt)), tt, (seen b₀ o₀ ys₀, (ref b₁ o₁ δ₁ ys₁, a κs)), (slice_val (b₀, o₀) n₀ ∷ [], (slice_val (b₁, o₁) n₁ ∷ [], vss κs))), g κs δ₁)) ∷ ‵ ftrue ∷ ‵ (Viewed R₀ κ₀ κs.0 q₀ γ₀ b₀ o₀ ys₀) ∷ ‵ (LentAgain R₁ κ₁ κs.1.0 q₁ γ₁ b₁ o₁ δ₁ ys₁) ∷ Γ) E xs (slice_val (b₀, o₀) n₀ ∷ slice_val (b₁, o₁) n₁ ∷ flat (types_at ss κs) (vss κs)))
      → ((u : Val) (r : Q.Denot) (zs₁ : List R₁.Denot) → length zs₁ ≡ n₁ → ψ r zs₁ → Is Q r (u ∷ []) → Seq K 𝓛 (‵ (flft κ₀ q₀) ∷ ‵ ((MutSlice (named 0) κ₀ R₀).own_val (ref b₀ o₀ γ₀ ys₀) (slice_val (b₀, o₀) n₀ ∷ [])) ∷ ‵ (flft κ₁ q₁) ∷ ‵ ((MutSlice (named 0) κ₁ R₁).own_val (ref b₁ o₁ γ₁ zs₁) (slice_val (b₁, o₁) n₁ ∷ [])) ∷ Γ) (lands C Λ E d u rest p))
      → Seq K 𝓛 (‵ (flft κ₀ q₀) ∷ ‵ ((MutSlice (named 0) κ₀ R₀).own_val (ref b₀ o₀ γ₀ ys₀) (slice_val (b₀, o₀) n₀ ∷ [])) ∷ ‵ (flft κ₁ q₁) ∷ ‵ ((MutSlice (named 0) κ₁ R₁).own_val (ref b₁ o₁ γ₁ ys₁) (slice_val (b₁, o₁) n₁ ∷ [])) ∷ Γ) (runs C Λ E (seq (call f xs d) rest) p)
  calls_view_mut t fm R₀ R₁ Q ss ks c known {κ₀} {q₀} b₀ o₀ γ₀ ys₀ n₀ en₀ shares₀ within₀ {κ₁} {q₁} b₁ o₁ γ₁ ys₁ n₁ en₁ a vss own g req ψ ens os k =
      lend_view t tt R₀ b₀ o₀ γ₀ ys₀ n₀ en₀ shares₀ within₀ (λ ν₀ room₀.
      move t (3 ∷ 4 ∷ []) $ lend_mut t tt R₁ b₁ o₁ γ₁ ys₁ n₁ en₁ (λ ν₁ δ₁ room₁.
      move t (1 ∷ 4 ∷ 0 ∷ 3 ∷ []) $ move t (1 ∷ 0 ∷ []) $ fjoin t $ move t (1 ∷ 0 ∷ []) $ fjoin t $ move t (1 ∷ 0 ∷ []) $ fjoin t $ use1 𝓛 (raw (pre (ν₀ ∷ [], (ν₁ ∷ [], tt)) δ₁)) (goes (ν₀ ∷ [], (ν₁ ∷ [], tt)) δ₁) $ nothing t $ move t (1 ∷ 0 ∷ 3 ∷ 2 ∷ []) $
      calls_at t fm (contract_of 𝓛 (shr_mut_ended R₀ R₁ Q ss ks) c) known (y (ν₀ ∷ [], (ν₁ ∷ [], tt)) δ₁) (os (ν₀ ∷ [], (ν₁ ∷ [], tt)) δ₁) (λ u.
      use1 𝓛 (later (some (λ (r : Q.Denot). ((‵ (flft (ν₀ ∷ []) full_share) ⊛ (‵ (flft (ν₁ ∷ []) full_share) ⊛ ‵ ftrue)) ⊛ ‵ (Q.own_val r (u ∷ []))) ⊛ raw (ensured 𝓛 (shr_mut_ended R₀ R₁ Q ss ks) c (ν₀ ∷ [], (ν₁ ∷ [], tt)) (args (ν₀ ∷ [], (ν₁ ∷ [], tt)) δ₁) (g (ν₀ ∷ [], (ν₁ ∷ [], tt)) δ₁) r)))) (id⊢ 𝓤 _) $ await t tt $ pick t (λ r. split t $ move t (1 ∷ []) $
      use1 𝓛 (some (λ (ws : Lasts (shr_mut_ended R₀ R₁ Q ss ks) (ν₀ ∷ [], (ν₁ ∷ [], tt)) (args (ν₀ ∷ [], (ν₁ ∷ [], tt)) δ₁)). ‵ (lasts (shr_mut_ended R₀ R₁ Q ss ks) (ν₀ ∷ [], (ν₁ ∷ [], tt)) (args (ν₀ ∷ [], (ν₁ ∷ [], tt)) δ₁) ws) ⊛ raw ((c (ν₀ ∷ [], (ν₁ ∷ [], tt)) (args (ν₀ ∷ [], (ν₁ ∷ [], tt)) δ₁)).ensures (g (ν₀ ∷ [], (ν₁ ∷ [], tt)) δ₁) r (at_exit (shr_mut_ended R₀ R₁ Q ss ks) (ν₀ ∷ [], (ν₁ ∷ [], tt)) (args (ν₀ ∷ [], (ν₁ ∷ [], tt)) δ₁) ws)))) (id⊢ 𝓤 _) $ pick t (λ ws. split t $ move t (1 ∷ []) $
      use1 𝓛 (raw (fact 𝓤 (ψ r ws.1.0))) (ens (ν₀ ∷ [], (ν₁ ∷ [], tt)) δ₁ r ws) $ heard t (ψ r ws.1.0) (λ e.
      fsplit t $ drop t $ fsplit t $ fsplit t $ fsplit t $ move t (1 ∷ []) $ feq_l t (λ l₁. move t (1 ∷ []) $ drop t $ move t (1 ∷ []) $ drop t $ move t (1 ∷ []) $ split t $ move t (1 ∷ []) $ peeks t Q (Is Q) (shows 𝓛 Q) r (u ∷ []) (λ is. drop t $ split t $ move t (1 ∷ []) $ split t $ move t (1 ∷ []) $ drop t $
      move t (1 ∷ 4 ∷ []) $ back_view t tt R₀ b₀ o₀ γ₀ ys₀ n₀ en₀ ν₀ room₀ (move t (2 ∷ 5 ∷ 3 ∷ []) $ back_mut t tt R₁ b₁ o₁ γ₁ ys₁ n₁ en₁ ν₁ δ₁ room₁ ws.1.0 l₁ (move t (4 ∷ []) $ drop t $ move t (2 ∷ 3 ∷ 0 ∷ 1 ∷ []) $ k u r ws.1.0 (l₁ ∙ en₁) e is))))))))))
    where
      args : (κs : Lfts 2) (δ₁ : GName) → Args (shr_mut_ended R₀ R₁ Q ss ks).signature κs
      args κs δ₁ = (seen b₀ o₀ ys₀, (ref b₁ o₁ δ₁ ys₁, a κs))

      y : (κs : Lfts 2) (δ₁ : GName) → (contract_of 𝓛 (shr_mut_ended R₀ R₁ Q ss ks) c).Ghost
      y κs δ₁ = ((κs, (full_share, (full_share, tt)), tt, (seen b₀ o₀ ys₀, (ref b₁ o₁ δ₁ ys₁, a κs)), (slice_val (b₀, o₀) n₀ ∷ [], (slice_val (b₁, o₁) n₁ ∷ [], vss κs))), g κs δ₁)

      pre : (κs : Lfts 2) (δ₁ : GName) → SProp 𝓤
      pre κs δ₁ = (contract_of 𝓛 (shr_mut_ended R₀ R₁ Q ss ks) c).pre (y κs δ₁)

      goes : (κs : Lfts 2) (δ₁ : GName) → ent 𝓤 (sem 𝓛 (fsep (flft κs.0 full_share) (fsep (flft κs.1.0 full_share) (fsep ((ShrSlice (named 0) κs.0 R₀).own_val (seen b₀ o₀ ys₀) (slice_val (b₀, o₀) n₀ ∷ [])) ((MutSlice (named 0) κs.1.0 R₁).own_val (ref b₁ o₁ δ₁ ys₁) (slice_val (b₁, o₁) n₁ ∷ [])))))) (pre κs δ₁)
      goes κs δ₁ =
          qed 𝓛 (‵ (fsep (flft κs.0 full_share) (fsep (flft κs.1.0 full_share) (fsep ((ShrSlice (named 0) κs.0 R₀).own_val (seen b₀ o₀ ys₀) (slice_val (b₀, o₀) n₀ ∷ [])) ((MutSlice (named 0) κs.1.0 R₁).own_val (ref b₁ o₁ δ₁ ys₁) (slice_val (b₁, o₁) n₁ ∷ []))))) ∷ []) ∵ fsplit ! $ move ! (1 ∷ []) $ fsplit ! $ move ! (1 ∷ []) $ fsplit ! $
          use0 𝓛 (raw ((c κs (seen b₀ o₀ ys₀, (ref b₁ o₁ δ₁ ys₁, a κs))).requires (g κs δ₁))) (req κs δ₁) $ use0 𝓛 (‵ (owns (types_at ss κs) (a κs) (vss κs))) (own κs) $ move ! (3 ∷ 0 ∷ []) $ fjoin ! $ move ! (2 ∷ 0 ∷ []) $ fjoin ! $ nothing ! $ move ! (3 ∷ 0 ∷ []) $ join ! $ move ! (3 ∷ 0 ∷ []) $ join ! $ join ! $ frame ! $ done !

  pub calls_view_view : K → FmC 𝓤 H 𝓛.laws C → (R₀ R₁ Q : RattleType) (ss : List (Slot 2)) (ks : Kepts ss) (c : Clauses 𝓤 (shr_shr_ended R₀ R₁ Q ss ks)) → Triple 𝓤 (C f) (contract_of 𝓛 (shr_shr_ended R₀ R₁ Q ss ks) c)
      → {κ₀ : Lft} {q₀ : Share} (b₀ o₀ : ℕ) (γ₀ : GName) (ys₀ : List R₀.Denot) (n₀ : ℕ) → length ys₀ ≡ n₀ → Shares 𝓛 R₀ R₀.lives → Incl κ₀ R₀.lives
      → {κ₁ : Lft} {q₁ : Share} (b₁ o₁ : ℕ) (γ₁ : GName) (ys₁ : List R₁.Denot) (n₁ : ℕ) → length ys₁ ≡ n₁ → Shares 𝓛 R₁ R₁.lives → Incl κ₁ R₁.lives
      → (a : (κs : Lfts 2) → Denots (types_at ss κs)) (vss : (κs : Lfts 2) → Valss (types_at ss κs)) → ((κs : Lfts 2) → ent 𝓤 (emp 𝓤) (sem 𝓛 (owns (types_at ss κs) (a κs) (vss κs))))
      → (g : (κs : Lfts 2) → (c κs (seen b₀ o₀ ys₀, (seen b₁ o₁ ys₁, a κs))).ghost) → ((κs : Lfts 2) → ent 𝓤 (emp 𝓤) ((c κs (seen b₀ o₀ ys₀, (seen b₁ o₁ ys₁, a κs))).requires (g κs)))
      → (ψ : Q.Denot → Type 0) → ((κs : Lfts 2) (r : Q.Denot) (ws : Lasts (shr_shr_ended R₀ R₁ Q ss ks) κs (seen b₀ o₀ ys₀, (seen b₁ o₁ ys₁, a κs))) → ent 𝓤 ((c κs (seen b₀ o₀ ys₀, (seen b₁ o₁ ys₁, a κs))).ensures (g κs) r (at_exit (shr_shr_ended R₀ R₁ Q ss ks) κs (seen b₀ o₀ ys₀, (seen b₁ o₁ ys₁, a κs)) ws)) (fact 𝓤 (ψ r)))
      → ((κs : Lfts 2) → Opds K 𝓛 (raw ((contract_of 𝓛 (shr_shr_ended R₀ R₁ Q ss ks) c).pre ((κs, (full_share, (full_share, tt)), tt, (seen b₀ o₀ ys₀, (seen b₁ o₁ ys₁, a κs)), (slice_val (b₀, o₀) n₀ ∷ [], (slice_val (b₁, o₁) n₁ ∷ [], vss κs))), g κs)) ∷ ‵ ftrue ∷ ‵ (Viewed R₀ κ₀ κs.0 q₀ γ₀ b₀ o₀ ys₀) ∷ ‵ (Viewed R₁ κ₁ κs.1.0 q₁ γ₁ b₁ o₁ ys₁) ∷ Γ) E xs (slice_val (b₀, o₀) n₀ ∷ slice_val (b₁, o₁) n₁ ∷ flat (types_at ss κs) (vss κs)))
      → ((u : Val) (r : Q.Denot) → ψ r → Is Q r (u ∷ []) → Seq K 𝓛 (‵ (flft κ₀ q₀) ∷ ‵ ((MutSlice (named 0) κ₀ R₀).own_val (ref b₀ o₀ γ₀ ys₀) (slice_val (b₀, o₀) n₀ ∷ [])) ∷ ‵ (flft κ₁ q₁) ∷ ‵ ((MutSlice (named 0) κ₁ R₁).own_val (ref b₁ o₁ γ₁ ys₁) (slice_val (b₁, o₁) n₁ ∷ [])) ∷ Γ) (lands C Λ E d u rest p))
      → Seq K 𝓛 (‵ (flft κ₀ q₀) ∷ ‵ ((MutSlice (named 0) κ₀ R₀).own_val (ref b₀ o₀ γ₀ ys₀) (slice_val (b₀, o₀) n₀ ∷ [])) ∷ ‵ (flft κ₁ q₁) ∷ ‵ ((MutSlice (named 0) κ₁ R₁).own_val (ref b₁ o₁ γ₁ ys₁) (slice_val (b₁, o₁) n₁ ∷ [])) ∷ Γ) (runs C Λ E (seq (call f xs d) rest) p)
  calls_view_view t fm R₀ R₁ Q ss ks c known {κ₀} {q₀} b₀ o₀ γ₀ ys₀ n₀ en₀ shares₀ within₀ {κ₁} {q₁} b₁ o₁ γ₁ ys₁ n₁ en₁ shares₁ within₁ a vss own g req ψ ens os k =
      lend_view t tt R₀ b₀ o₀ γ₀ ys₀ n₀ en₀ shares₀ within₀ (λ ν₀ room₀.
      move t (3 ∷ 4 ∷ []) $ lend_view t tt R₁ b₁ o₁ γ₁ ys₁ n₁ en₁ shares₁ within₁ (λ ν₁ room₁.
      move t (1 ∷ 4 ∷ 0 ∷ 3 ∷ []) $ move t (1 ∷ 0 ∷ []) $ fjoin t $ move t (1 ∷ 0 ∷ []) $ fjoin t $ move t (1 ∷ 0 ∷ []) $ fjoin t $ use1 𝓛 (raw (pre (ν₀ ∷ [], (ν₁ ∷ [], tt)))) (goes (ν₀ ∷ [], (ν₁ ∷ [], tt))) $ nothing t $ move t (1 ∷ 0 ∷ 3 ∷ 2 ∷ []) $
      calls_at t fm (contract_of 𝓛 (shr_shr_ended R₀ R₁ Q ss ks) c) known (y (ν₀ ∷ [], (ν₁ ∷ [], tt))) (os (ν₀ ∷ [], (ν₁ ∷ [], tt))) (λ u.
      use1 𝓛 (later (some (λ (r : Q.Denot). ((‵ (flft (ν₀ ∷ []) full_share) ⊛ (‵ (flft (ν₁ ∷ []) full_share) ⊛ ‵ ftrue)) ⊛ ‵ (Q.own_val r (u ∷ []))) ⊛ raw (ensured 𝓛 (shr_shr_ended R₀ R₁ Q ss ks) c (ν₀ ∷ [], (ν₁ ∷ [], tt)) (args (ν₀ ∷ [], (ν₁ ∷ [], tt))) (g (ν₀ ∷ [], (ν₁ ∷ [], tt))) r)))) (id⊢ 𝓤 _) $ await t tt $ pick t (λ r. split t $ move t (1 ∷ []) $
      use1 𝓛 (some (λ (ws : Lasts (shr_shr_ended R₀ R₁ Q ss ks) (ν₀ ∷ [], (ν₁ ∷ [], tt)) (args (ν₀ ∷ [], (ν₁ ∷ [], tt)))). ‵ (lasts (shr_shr_ended R₀ R₁ Q ss ks) (ν₀ ∷ [], (ν₁ ∷ [], tt)) (args (ν₀ ∷ [], (ν₁ ∷ [], tt))) ws) ⊛ raw ((c (ν₀ ∷ [], (ν₁ ∷ [], tt)) (args (ν₀ ∷ [], (ν₁ ∷ [], tt)))).ensures (g (ν₀ ∷ [], (ν₁ ∷ [], tt))) r (at_exit (shr_shr_ended R₀ R₁ Q ss ks) (ν₀ ∷ [], (ν₁ ∷ [], tt)) (args (ν₀ ∷ [], (ν₁ ∷ [], tt))) ws)))) (id⊢ 𝓤 _) $ pick t (λ ws. split t $ move t (1 ∷ []) $
      use1 𝓛 (raw (fact 𝓤 (ψ r))) (ens (ν₀ ∷ [], (ν₁ ∷ [], tt)) r ws) $ heard t (ψ r) (λ e.
      fsplit t $ drop t $ fsplit t $ drop t $ drop t $ split t $ move t (1 ∷ []) $ peeks t Q (Is Q) (shows 𝓛 Q) r (u ∷ []) (λ is. drop t $ split t $ move t (1 ∷ []) $ split t $ move t (1 ∷ []) $ drop t $
      move t (1 ∷ 3 ∷ []) $ back_view t tt R₀ b₀ o₀ γ₀ ys₀ n₀ en₀ ν₀ room₀ (move t (2 ∷ 4 ∷ []) $ back_view t tt R₁ b₁ o₁ γ₁ ys₁ n₁ en₁ ν₁ room₁ (move t (4 ∷ []) $ drop t $ move t (2 ∷ 3 ∷ 0 ∷ 1 ∷ []) $ k u r e is)))))))))
    where
      args : (κs : Lfts 2) → Args (shr_shr_ended R₀ R₁ Q ss ks).signature κs
      args κs = (seen b₀ o₀ ys₀, (seen b₁ o₁ ys₁, a κs))

      y : (κs : Lfts 2) → (contract_of 𝓛 (shr_shr_ended R₀ R₁ Q ss ks) c).Ghost
      y κs = ((κs, (full_share, (full_share, tt)), tt, (seen b₀ o₀ ys₀, (seen b₁ o₁ ys₁, a κs)), (slice_val (b₀, o₀) n₀ ∷ [], (slice_val (b₁, o₁) n₁ ∷ [], vss κs))), g κs)

      pre : (κs : Lfts 2) → SProp 𝓤
      pre κs = (contract_of 𝓛 (shr_shr_ended R₀ R₁ Q ss ks) c).pre (y κs)

      goes : (κs : Lfts 2) → ent 𝓤 (sem 𝓛 (fsep (flft κs.0 full_share) (fsep (flft κs.1.0 full_share) (fsep ((ShrSlice (named 0) κs.0 R₀).own_val (seen b₀ o₀ ys₀) (slice_val (b₀, o₀) n₀ ∷ [])) ((ShrSlice (named 0) κs.1.0 R₁).own_val (seen b₁ o₁ ys₁) (slice_val (b₁, o₁) n₁ ∷ [])))))) (pre κs)
      goes κs =
          qed 𝓛 (‵ (fsep (flft κs.0 full_share) (fsep (flft κs.1.0 full_share) (fsep ((ShrSlice (named 0) κs.0 R₀).own_val (seen b₀ o₀ ys₀) (slice_val (b₀, o₀) n₀ ∷ [])) ((ShrSlice (named 0) κs.1.0 R₁).own_val (seen b₁ o₁ ys₁) (slice_val (b₁, o₁) n₁ ∷ []))))) ∷ []) ∵ fsplit ! $ move ! (1 ∷ []) $ fsplit ! $ move ! (1 ∷ []) $ fsplit ! $
          use0 𝓛 (raw ((c κs (seen b₀ o₀ ys₀, (seen b₁ o₁ ys₁, a κs))).requires (g κs))) (req κs) $ use0 𝓛 (‵ (owns (types_at ss κs) (a κs) (vss κs))) (own κs) $ move ! (3 ∷ 0 ∷ []) $ fjoin ! $ move ! (2 ∷ 0 ∷ []) $ fjoin ! $ nothing ! $ move ! (3 ∷ 0 ∷ []) $ join ! $ move ! (3 ∷ 0 ∷ []) $ join ! $ join ! $ frame ! $ done !

  pub calls_front_front_front : K → FmC 𝓤 H 𝓛.laws C → (R₀ R₁ R₂ Q : RattleType) (ss : List (Slot 3)) (ks : Kepts ss) (c : Clauses 𝓤 (mut_mut_mut_ended R₀ R₁ R₂ Q ss ks)) → Triple 𝓤 (C f) (contract_of 𝓛 (mut_mut_mut_ended R₀ R₁ R₂ Q ss ks) c)
      → {κ₀ : Lft} {q₀ : Share} (b₀ o₀ : ℕ) (γ₀ : GName) (ys₀ : List R₀.Denot) (n₀ : ℕ) → length ys₀ ≡ n₀ → (m₀ : ℕ) → m₀ ≤ n₀
      → {κ₁ : Lft} {q₁ : Share} (b₁ o₁ : ℕ) (γ₁ : GName) (ys₁ : List R₁.Denot) (n₁ : ℕ) → length ys₁ ≡ n₁ → (m₁ : ℕ) → m₁ ≤ n₁
      → {κ₂ : Lft} {q₂ : Share} (b₂ o₂ : ℕ) (γ₂ : GName) (ys₂ : List R₂.Denot) (n₂ : ℕ) → length ys₂ ≡ n₂ → (m₂ : ℕ) → m₂ ≤ n₂
      → (a : (κs : Lfts 3) → Denots (types_at ss κs)) (vss : (κs : Lfts 3) → Valss (types_at ss κs)) → ((κs : Lfts 3) → ent 𝓤 (emp 𝓤) (sem 𝓛 (owns (types_at ss κs) (a κs) (vss κs))))
      → (g : (κs : Lfts 3) (δ₀ δ₁ δ₂ : GName) → (c κs (ref b₀ o₀ δ₀ (front m₀ ys₀), (ref b₁ o₁ δ₁ (front m₁ ys₁), (ref b₂ o₂ δ₂ (front m₂ ys₂), a κs)))).ghost) → ((κs : Lfts 3) (δ₀ δ₁ δ₂ : GName) → ent 𝓤 (emp 𝓤) ((c κs (ref b₀ o₀ δ₀ (front m₀ ys₀), (ref b₁ o₁ δ₁ (front m₁ ys₁), (ref b₂ o₂ δ₂ (front m₂ ys₂), a κs)))).requires (g κs δ₀ δ₁ δ₂)))
      → (ψ : Q.Denot → List R₀.Denot → List R₁.Denot → List R₂.Denot → Type 0) → ((κs : Lfts 3) (δ₀ δ₁ δ₂ : GName) (r : Q.Denot) (ws : Lasts (mut_mut_mut_ended R₀ R₁ R₂ Q ss ks) κs (ref b₀ o₀ δ₀ (front m₀ ys₀), (ref b₁ o₁ δ₁ (front m₁ ys₁), (ref b₂ o₂ δ₂ (front m₂ ys₂), a κs)))) → ent 𝓤 ((c κs (ref b₀ o₀ δ₀ (front m₀ ys₀), (ref b₁ o₁ δ₁ (front m₁ ys₁), (ref b₂ o₂ δ₂ (front m₂ ys₂), a κs)))).ensures (g κs δ₀ δ₁ δ₂) r (at_exit (mut_mut_mut_ended R₀ R₁ R₂ Q ss ks) κs (ref b₀ o₀ δ₀ (front m₀ ys₀), (ref b₁ o₁ δ₁ (front m₁ ys₁), (ref b₂ o₂ δ₂ (front m₂ ys₂), a κs))) ws)) (fact 𝓤 (ψ r ws.0 ws.1.0 ws.1.1.0)))
      → ((κs : Lfts 3) (δ₀ δ₁ δ₂ : GName) → Opds K 𝓛 (raw ((contract_of 𝓛 (mut_mut_mut_ended R₀ R₁ R₂ Q ss ks) c).pre ((κs, (full_share, (full_share, (full_share, tt))), tt, (ref b₀ o₀ δ₀ (front m₀ ys₀), (ref b₁ o₁ δ₁ (front m₁ ys₁), (ref b₂ o₂ δ₂ (front m₂ ys₂), a κs))), (slice_val (b₀, o₀) m₀ ∷ [], (slice_val (b₁, o₁) m₁ ∷ [], (slice_val (b₂, o₂) m₂ ∷ [], vss κs)))), g κs δ₀ δ₁ δ₂)) ∷ ‵ ftrue ∷ ‵ ftrue ∷ ‵ (LentFront R₀ κ₀ κs.0 q₀ γ₀ b₀ o₀ δ₀ m₀ ys₀) ∷ ‵ (LentFront R₁ κ₁ κs.1.0 q₁ γ₁ b₁ o₁ δ₁ m₁ ys₁) ∷ ‵ (LentFront R₂ κ₂ κs.1.1.0 q₂ γ₂ b₂ o₂ δ₂ m₂ ys₂) ∷ Γ) E xs (slice_val (b₀, o₀) m₀ ∷ slice_val (b₁, o₁) m₁ ∷ slice_val (b₂, o₂) m₂ ∷ flat (types_at ss κs) (vss κs)))
      → ((u : Val) (r : Q.Denot) (zs₀ : List R₀.Denot) (zs₁ : List R₁.Denot) (zs₂ : List R₂.Denot) → length zs₀ ≡ m₀ → length zs₁ ≡ m₁ → length zs₂ ≡ m₂ → ψ r zs₀ zs₁ zs₂ → Is Q r (u ∷ []) → Seq K 𝓛 (‵ (flft κ₀ q₀) ∷ ‵ ((MutSlice (named 0) κ₀ R₀).own_val (ref b₀ o₀ γ₀ (refronted m₀ ys₀ zs₀)) (slice_val (b₀, o₀) n₀ ∷ [])) ∷ ‵ (flft κ₁ q₁) ∷ ‵ ((MutSlice (named 0) κ₁ R₁).own_val (ref b₁ o₁ γ₁ (refronted m₁ ys₁ zs₁)) (slice_val (b₁, o₁) n₁ ∷ [])) ∷ ‵ (flft κ₂ q₂) ∷ ‵ ((MutSlice (named 0) κ₂ R₂).own_val (ref b₂ o₂ γ₂ (refronted m₂ ys₂ zs₂)) (slice_val (b₂, o₂) n₂ ∷ [])) ∷ Γ) (lands C Λ E d u rest p))
      → Seq K 𝓛 (‵ (flft κ₀ q₀) ∷ ‵ ((MutSlice (named 0) κ₀ R₀).own_val (ref b₀ o₀ γ₀ ys₀) (slice_val (b₀, o₀) n₀ ∷ [])) ∷ ‵ (flft κ₁ q₁) ∷ ‵ ((MutSlice (named 0) κ₁ R₁).own_val (ref b₁ o₁ γ₁ ys₁) (slice_val (b₁, o₁) n₁ ∷ [])) ∷ ‵ (flft κ₂ q₂) ∷ ‵ ((MutSlice (named 0) κ₂ R₂).own_val (ref b₂ o₂ γ₂ ys₂) (slice_val (b₂, o₂) n₂ ∷ [])) ∷ Γ) (runs C Λ E (seq (call f xs d) rest) p)
  calls_front_front_front t fm R₀ R₁ R₂ Q ss ks c known {κ₀} {q₀} b₀ o₀ γ₀ ys₀ n₀ en₀ m₀ le₀ {κ₁} {q₁} b₁ o₁ γ₁ ys₁ n₁ en₁ m₁ le₁ {κ₂} {q₂} b₂ o₂ γ₂ ys₂ n₂ en₂ m₂ le₂ a vss own g req ψ ens os k =
      lend_front t tt R₀ b₀ o₀ γ₀ ys₀ n₀ en₀ m₀ le₀ (λ ν₀ δ₀ room₀.
      move t (3 ∷ 4 ∷ []) $ lend_front t tt R₁ b₁ o₁ γ₁ ys₁ n₁ en₁ m₁ le₁ (λ ν₁ δ₁ room₁.
      move t (6 ∷ 7 ∷ []) $ lend_front t tt R₂ b₂ o₂ γ₂ ys₂ n₂ en₂ m₂ le₂ (λ ν₂ δ₂ room₂.
      move t (1 ∷ 4 ∷ 7 ∷ 0 ∷ 3 ∷ 6 ∷ []) $ move t (1 ∷ 0 ∷ []) $ fjoin t $ move t (1 ∷ 0 ∷ []) $ fjoin t $ move t (1 ∷ 0 ∷ []) $ fjoin t $ move t (1 ∷ 0 ∷ []) $ fjoin t $ move t (1 ∷ 0 ∷ []) $ fjoin t $ use1 𝓛 (raw (pre (ν₀ ∷ [], (ν₁ ∷ [], (ν₂ ∷ [], tt))) δ₀ δ₁ δ₂)) (goes (ν₀ ∷ [], (ν₁ ∷ [], (ν₂ ∷ [], tt))) δ₀ δ₁ δ₂) $ nothing t $ nothing t $ move t (2 ∷ 1 ∷ 0 ∷ 5 ∷ 4 ∷ 3 ∷ []) $
      calls_at t fm (contract_of 𝓛 (mut_mut_mut_ended R₀ R₁ R₂ Q ss ks) c) known (y (ν₀ ∷ [], (ν₁ ∷ [], (ν₂ ∷ [], tt))) δ₀ δ₁ δ₂) (os (ν₀ ∷ [], (ν₁ ∷ [], (ν₂ ∷ [], tt))) δ₀ δ₁ δ₂) (λ u.
      use1 𝓛 (later (some (λ (r : Q.Denot). ((‵ (flft (ν₀ ∷ []) full_share) ⊛ (‵ (flft (ν₁ ∷ []) full_share) ⊛ (‵ (flft (ν₂ ∷ []) full_share) ⊛ ‵ ftrue))) ⊛ ‵ (Q.own_val r (u ∷ []))) ⊛ raw (ensured 𝓛 (mut_mut_mut_ended R₀ R₁ R₂ Q ss ks) c (ν₀ ∷ [], (ν₁ ∷ [], (ν₂ ∷ [], tt))) (args (ν₀ ∷ [], (ν₁ ∷ [], (ν₂ ∷ [], tt))) δ₀ δ₁ δ₂) (g (ν₀ ∷ [], (ν₁ ∷ [], (ν₂ ∷ [], tt))) δ₀ δ₁ δ₂) r)))) (id⊢ 𝓤 _) $ await t tt $ pick t (λ r. split t $ move t (1 ∷ []) $
      use1 𝓛 (some (λ (ws : Lasts (mut_mut_mut_ended R₀ R₁ R₂ Q ss ks) (ν₀ ∷ [], (ν₁ ∷ [], (ν₂ ∷ [], tt))) (args (ν₀ ∷ [], (ν₁ ∷ [], (ν₂ ∷ [], tt))) δ₀ δ₁ δ₂)). ‵ (lasts (mut_mut_mut_ended R₀ R₁ R₂ Q ss ks) (ν₀ ∷ [], (ν₁ ∷ [], (ν₂ ∷ [], tt))) (args (ν₀ ∷ [], (ν₁ ∷ [], (ν₂ ∷ [], tt))) δ₀ δ₁ δ₂) ws) ⊛ raw ((c (ν₀ ∷ [], (ν₁ ∷ [], (ν₂ ∷ [], tt))) (args (ν₀ ∷ [], (ν₁ ∷ [], (ν₂ ∷ [], tt))) δ₀ δ₁ δ₂)).ensures (g (ν₀ ∷ [], (ν₁ ∷ [], (ν₂ ∷ [], tt))) δ₀ δ₁ δ₂) r (at_exit (mut_mut_mut_ended R₀ R₁ R₂ Q ss ks) (ν₀ ∷ [], (ν₁ ∷ [], (ν₂ ∷ [], tt))) (args (ν₀ ∷ [], (ν₁ ∷ [], (ν₂ ∷ [], tt))) δ₀ δ₁ δ₂) ws)))) (id⊢ 𝓤 _) $ pick t (λ ws. split t $ move t (1 ∷ []) $
      use1 𝓛 (raw (fact 𝓤 (ψ r ws.0 ws.1.0 ws.1.1.0))) (ens (ν₀ ∷ [], (ν₁ ∷ [], (ν₂ ∷ [], tt))) δ₀ δ₁ δ₂ r ws) $ heard t (ψ r ws.0 ws.1.0 ws.1.1.0) (λ e.
      fsplit t $ fsplit t $ fsplit t $ move t (1 ∷ []) $ feq_l t (λ l₀. move t (1 ∷ []) $ drop t $ move t (1 ∷ []) $ fsplit t $ fsplit t $ fsplit t $ move t (1 ∷ []) $ feq_l t (λ l₁. move t (1 ∷ []) $ drop t $ move t (1 ∷ []) $ fsplit t $ fsplit t $ fsplit t $ move t (1 ∷ []) $ feq_l t (λ l₂. move t (1 ∷ []) $ drop t $ move t (1 ∷ []) $ drop t $ move t (3 ∷ []) $ split t $ move t (1 ∷ []) $ peeks t Q (Is Q) (shows 𝓛 Q) r (u ∷ []) (λ is. drop t $ split t $ move t (1 ∷ []) $ split t $ move t (1 ∷ []) $ split t $ move t (1 ∷ []) $ drop t $
      move t (2 ∷ 8 ∷ 5 ∷ []) $ back_front t tt R₀ b₀ o₀ γ₀ ys₀ n₀ en₀ m₀ ν₀ δ₀ room₀ ws.0 l₀ (move t (3 ∷ 8 ∷ 5 ∷ []) $ back_front t tt R₁ b₁ o₁ γ₁ ys₁ n₁ en₁ m₁ ν₁ δ₁ room₁ ws.1.0 l₁ (move t (4 ∷ 8 ∷ 5 ∷ []) $ back_front t tt R₂ b₂ o₂ γ₂ ys₂ n₂ en₂ m₂ ν₂ δ₂ room₂ ws.1.1.0 l₂ (move t (6 ∷ []) $ drop t $ move t (6 ∷ []) $ drop t $ move t (4 ∷ 5 ∷ 2 ∷ 3 ∷ 0 ∷ 1 ∷ []) $ k u r ws.0 ws.1.0 ws.1.1.0 (l₀ ∙ front_size m₀ ys₀ n₀ en₀ le₀) (l₁ ∙ front_size m₁ ys₁ n₁ en₁ le₁) (l₂ ∙ front_size m₂ ys₂ n₂ en₂ le₂) e is))))))))))))))
    where
      args : (κs : Lfts 3) (δ₀ δ₁ δ₂ : GName) → Args (mut_mut_mut_ended R₀ R₁ R₂ Q ss ks).signature κs
      args κs δ₀ δ₁ δ₂ = (ref b₀ o₀ δ₀ (front m₀ ys₀), (ref b₁ o₁ δ₁ (front m₁ ys₁), (ref b₂ o₂ δ₂ (front m₂ ys₂), a κs)))

      y : (κs : Lfts 3) (δ₀ δ₁ δ₂ : GName) → (contract_of 𝓛 (mut_mut_mut_ended R₀ R₁ R₂ Q ss ks) c).Ghost
      y κs δ₀ δ₁ δ₂ = ((κs, (full_share, (full_share, (full_share, tt))), tt, (ref b₀ o₀ δ₀ (front m₀ ys₀), (ref b₁ o₁ δ₁ (front m₁ ys₁), (ref b₂ o₂ δ₂ (front m₂ ys₂), a κs))), (slice_val (b₀, o₀) m₀ ∷ [], (slice_val (b₁, o₁) m₁ ∷ [], (slice_val (b₂, o₂) m₂ ∷ [], vss κs)))), g κs δ₀ δ₁ δ₂)

      pre : (κs : Lfts 3) (δ₀ δ₁ δ₂ : GName) → SProp 𝓤
      pre κs δ₀ δ₁ δ₂ = (contract_of 𝓛 (mut_mut_mut_ended R₀ R₁ R₂ Q ss ks) c).pre (y κs δ₀ δ₁ δ₂)

      goes : (κs : Lfts 3) (δ₀ δ₁ δ₂ : GName) → ent 𝓤 (sem 𝓛 (fsep (flft κs.0 full_share) (fsep (flft κs.1.0 full_share) (fsep (flft κs.1.1.0 full_share) (fsep ((MutSlice (named 0) κs.0 R₀).own_val (ref b₀ o₀ δ₀ (front m₀ ys₀)) (slice_val (b₀, o₀) m₀ ∷ [])) (fsep ((MutSlice (named 0) κs.1.0 R₁).own_val (ref b₁ o₁ δ₁ (front m₁ ys₁)) (slice_val (b₁, o₁) m₁ ∷ [])) ((MutSlice (named 0) κs.1.1.0 R₂).own_val (ref b₂ o₂ δ₂ (front m₂ ys₂)) (slice_val (b₂, o₂) m₂ ∷ [])))))))) (pre κs δ₀ δ₁ δ₂)
      goes κs δ₀ δ₁ δ₂ =
          qed 𝓛 (‵ (fsep (flft κs.0 full_share) (fsep (flft κs.1.0 full_share) (fsep (flft κs.1.1.0 full_share) (fsep ((MutSlice (named 0) κs.0 R₀).own_val (ref b₀ o₀ δ₀ (front m₀ ys₀)) (slice_val (b₀, o₀) m₀ ∷ [])) (fsep ((MutSlice (named 0) κs.1.0 R₁).own_val (ref b₁ o₁ δ₁ (front m₁ ys₁)) (slice_val (b₁, o₁) m₁ ∷ [])) ((MutSlice (named 0) κs.1.1.0 R₂).own_val (ref b₂ o₂ δ₂ (front m₂ ys₂)) (slice_val (b₂, o₂) m₂ ∷ []))))))) ∷ []) ∵ fsplit ! $ move ! (1 ∷ []) $ fsplit ! $ move ! (1 ∷ []) $ fsplit ! $ move ! (1 ∷ []) $ fsplit ! $ move ! (1 ∷ []) $ fsplit ! $
          use0 𝓛 (raw ((c κs (ref b₀ o₀ δ₀ (front m₀ ys₀), (ref b₁ o₁ δ₁ (front m₁ ys₁), (ref b₂ o₂ δ₂ (front m₂ ys₂), a κs)))).requires (g κs δ₀ δ₁ δ₂))) (req κs δ₀ δ₁ δ₂) $ use0 𝓛 (‵ (owns (types_at ss κs) (a κs) (vss κs))) (own κs) $ move ! (3 ∷ 0 ∷ []) $ fjoin ! $ move ! (2 ∷ 0 ∷ []) $ fjoin ! $ move ! (2 ∷ 0 ∷ []) $ fjoin ! $ nothing ! $ move ! (3 ∷ 0 ∷ []) $ join ! $ move ! (3 ∷ 0 ∷ []) $ join ! $ move ! (3 ∷ 0 ∷ []) $ join ! $ join ! $ frame ! $ done !

  pub calls_mut_mut_mut : K → FmC 𝓤 H 𝓛.laws C → (R₀ R₁ R₂ Q : RattleType) (ss : List (Slot 3)) (ks : Kepts ss) (c : Clauses 𝓤 (mut_mut_mut_ended R₀ R₁ R₂ Q ss ks)) → Triple 𝓤 (C f) (contract_of 𝓛 (mut_mut_mut_ended R₀ R₁ R₂ Q ss ks) c)
      → {κ₀ : Lft} {q₀ : Share} (b₀ o₀ : ℕ) (γ₀ : GName) (ys₀ : List R₀.Denot) (n₀ : ℕ) → length ys₀ ≡ n₀
      → {κ₁ : Lft} {q₁ : Share} (b₁ o₁ : ℕ) (γ₁ : GName) (ys₁ : List R₁.Denot) (n₁ : ℕ) → length ys₁ ≡ n₁
      → {κ₂ : Lft} {q₂ : Share} (b₂ o₂ : ℕ) (γ₂ : GName) (ys₂ : List R₂.Denot) (n₂ : ℕ) → length ys₂ ≡ n₂
      → (a : (κs : Lfts 3) → Denots (types_at ss κs)) (vss : (κs : Lfts 3) → Valss (types_at ss κs)) → ((κs : Lfts 3) → ent 𝓤 (emp 𝓤) (sem 𝓛 (owns (types_at ss κs) (a κs) (vss κs))))
      → (g : (κs : Lfts 3) (δ₀ δ₁ δ₂ : GName) → (c κs (ref b₀ o₀ δ₀ ys₀, (ref b₁ o₁ δ₁ ys₁, (ref b₂ o₂ δ₂ ys₂, a κs)))).ghost) → ((κs : Lfts 3) (δ₀ δ₁ δ₂ : GName) → ent 𝓤 (emp 𝓤) ((c κs (ref b₀ o₀ δ₀ ys₀, (ref b₁ o₁ δ₁ ys₁, (ref b₂ o₂ δ₂ ys₂, a κs)))).requires (g κs δ₀ δ₁ δ₂)))
      → (ψ : Q.Denot → List R₀.Denot → List R₁.Denot → List R₂.Denot → Type 0) → ((κs : Lfts 3) (δ₀ δ₁ δ₂ : GName) (r : Q.Denot) (ws : Lasts (mut_mut_mut_ended R₀ R₁ R₂ Q ss ks) κs (ref b₀ o₀ δ₀ ys₀, (ref b₁ o₁ δ₁ ys₁, (ref b₂ o₂ δ₂ ys₂, a κs)))) → ent 𝓤 ((c κs (ref b₀ o₀ δ₀ ys₀, (ref b₁ o₁ δ₁ ys₁, (ref b₂ o₂ δ₂ ys₂, a κs)))).ensures (g κs δ₀ δ₁ δ₂) r (at_exit (mut_mut_mut_ended R₀ R₁ R₂ Q ss ks) κs (ref b₀ o₀ δ₀ ys₀, (ref b₁ o₁ δ₁ ys₁, (ref b₂ o₂ δ₂ ys₂, a κs))) ws)) (fact 𝓤 (ψ r ws.0 ws.1.0 ws.1.1.0)))
      → ((κs : Lfts 3) (δ₀ δ₁ δ₂ : GName) → Opds K 𝓛 (raw ((contract_of 𝓛 (mut_mut_mut_ended R₀ R₁ R₂ Q ss ks) c).pre ((κs, (full_share, (full_share, (full_share, tt))), tt, (ref b₀ o₀ δ₀ ys₀, (ref b₁ o₁ δ₁ ys₁, (ref b₂ o₂ δ₂ ys₂, a κs))), (slice_val (b₀, o₀) n₀ ∷ [], (slice_val (b₁, o₁) n₁ ∷ [], (slice_val (b₂, o₂) n₂ ∷ [], vss κs)))), g κs δ₀ δ₁ δ₂)) ∷ ‵ ftrue ∷ ‵ ftrue ∷ ‵ (LentAgain R₀ κ₀ κs.0 q₀ γ₀ b₀ o₀ δ₀ ys₀) ∷ ‵ (LentAgain R₁ κ₁ κs.1.0 q₁ γ₁ b₁ o₁ δ₁ ys₁) ∷ ‵ (LentAgain R₂ κ₂ κs.1.1.0 q₂ γ₂ b₂ o₂ δ₂ ys₂) ∷ Γ) E xs (slice_val (b₀, o₀) n₀ ∷ slice_val (b₁, o₁) n₁ ∷ slice_val (b₂, o₂) n₂ ∷ flat (types_at ss κs) (vss κs)))
      → ((u : Val) (r : Q.Denot) (zs₀ : List R₀.Denot) (zs₁ : List R₁.Denot) (zs₂ : List R₂.Denot) → length zs₀ ≡ n₀ → length zs₁ ≡ n₁ → length zs₂ ≡ n₂ → ψ r zs₀ zs₁ zs₂ → Is Q r (u ∷ []) → Seq K 𝓛 (‵ (flft κ₀ q₀) ∷ ‵ ((MutSlice (named 0) κ₀ R₀).own_val (ref b₀ o₀ γ₀ zs₀) (slice_val (b₀, o₀) n₀ ∷ [])) ∷ ‵ (flft κ₁ q₁) ∷ ‵ ((MutSlice (named 0) κ₁ R₁).own_val (ref b₁ o₁ γ₁ zs₁) (slice_val (b₁, o₁) n₁ ∷ [])) ∷ ‵ (flft κ₂ q₂) ∷ ‵ ((MutSlice (named 0) κ₂ R₂).own_val (ref b₂ o₂ γ₂ zs₂) (slice_val (b₂, o₂) n₂ ∷ [])) ∷ Γ) (lands C Λ E d u rest p))
      → Seq K 𝓛 (‵ (flft κ₀ q₀) ∷ ‵ ((MutSlice (named 0) κ₀ R₀).own_val (ref b₀ o₀ γ₀ ys₀) (slice_val (b₀, o₀) n₀ ∷ [])) ∷ ‵ (flft κ₁ q₁) ∷ ‵ ((MutSlice (named 0) κ₁ R₁).own_val (ref b₁ o₁ γ₁ ys₁) (slice_val (b₁, o₁) n₁ ∷ [])) ∷ ‵ (flft κ₂ q₂) ∷ ‵ ((MutSlice (named 0) κ₂ R₂).own_val (ref b₂ o₂ γ₂ ys₂) (slice_val (b₂, o₂) n₂ ∷ [])) ∷ Γ) (runs C Λ E (seq (call f xs d) rest) p)
  calls_mut_mut_mut t fm R₀ R₁ R₂ Q ss ks c known {κ₀} {q₀} b₀ o₀ γ₀ ys₀ n₀ en₀ {κ₁} {q₁} b₁ o₁ γ₁ ys₁ n₁ en₁ {κ₂} {q₂} b₂ o₂ γ₂ ys₂ n₂ en₂ a vss own g req ψ ens os k =
      lend_mut t tt R₀ b₀ o₀ γ₀ ys₀ n₀ en₀ (λ ν₀ δ₀ room₀.
      move t (3 ∷ 4 ∷ []) $ lend_mut t tt R₁ b₁ o₁ γ₁ ys₁ n₁ en₁ (λ ν₁ δ₁ room₁.
      move t (6 ∷ 7 ∷ []) $ lend_mut t tt R₂ b₂ o₂ γ₂ ys₂ n₂ en₂ (λ ν₂ δ₂ room₂.
      move t (1 ∷ 4 ∷ 7 ∷ 0 ∷ 3 ∷ 6 ∷ []) $ move t (1 ∷ 0 ∷ []) $ fjoin t $ move t (1 ∷ 0 ∷ []) $ fjoin t $ move t (1 ∷ 0 ∷ []) $ fjoin t $ move t (1 ∷ 0 ∷ []) $ fjoin t $ move t (1 ∷ 0 ∷ []) $ fjoin t $ use1 𝓛 (raw (pre (ν₀ ∷ [], (ν₁ ∷ [], (ν₂ ∷ [], tt))) δ₀ δ₁ δ₂)) (goes (ν₀ ∷ [], (ν₁ ∷ [], (ν₂ ∷ [], tt))) δ₀ δ₁ δ₂) $ nothing t $ nothing t $ move t (2 ∷ 1 ∷ 0 ∷ 5 ∷ 4 ∷ 3 ∷ []) $
      calls_at t fm (contract_of 𝓛 (mut_mut_mut_ended R₀ R₁ R₂ Q ss ks) c) known (y (ν₀ ∷ [], (ν₁ ∷ [], (ν₂ ∷ [], tt))) δ₀ δ₁ δ₂) (os (ν₀ ∷ [], (ν₁ ∷ [], (ν₂ ∷ [], tt))) δ₀ δ₁ δ₂) (λ u.
      use1 𝓛 (later (some (λ (r : Q.Denot). ((‵ (flft (ν₀ ∷ []) full_share) ⊛ (‵ (flft (ν₁ ∷ []) full_share) ⊛ (‵ (flft (ν₂ ∷ []) full_share) ⊛ ‵ ftrue))) ⊛ ‵ (Q.own_val r (u ∷ []))) ⊛ raw (ensured 𝓛 (mut_mut_mut_ended R₀ R₁ R₂ Q ss ks) c (ν₀ ∷ [], (ν₁ ∷ [], (ν₂ ∷ [], tt))) (args (ν₀ ∷ [], (ν₁ ∷ [], (ν₂ ∷ [], tt))) δ₀ δ₁ δ₂) (g (ν₀ ∷ [], (ν₁ ∷ [], (ν₂ ∷ [], tt))) δ₀ δ₁ δ₂) r)))) (id⊢ 𝓤 _) $ await t tt $ pick t (λ r. split t $ move t (1 ∷ []) $
      use1 𝓛 (some (λ (ws : Lasts (mut_mut_mut_ended R₀ R₁ R₂ Q ss ks) (ν₀ ∷ [], (ν₁ ∷ [], (ν₂ ∷ [], tt))) (args (ν₀ ∷ [], (ν₁ ∷ [], (ν₂ ∷ [], tt))) δ₀ δ₁ δ₂)). ‵ (lasts (mut_mut_mut_ended R₀ R₁ R₂ Q ss ks) (ν₀ ∷ [], (ν₁ ∷ [], (ν₂ ∷ [], tt))) (args (ν₀ ∷ [], (ν₁ ∷ [], (ν₂ ∷ [], tt))) δ₀ δ₁ δ₂) ws) ⊛ raw ((c (ν₀ ∷ [], (ν₁ ∷ [], (ν₂ ∷ [], tt))) (args (ν₀ ∷ [], (ν₁ ∷ [], (ν₂ ∷ [], tt))) δ₀ δ₁ δ₂)).ensures (g (ν₀ ∷ [], (ν₁ ∷ [], (ν₂ ∷ [], tt))) δ₀ δ₁ δ₂) r (at_exit (mut_mut_mut_ended R₀ R₁ R₂ Q ss ks) (ν₀ ∷ [], (ν₁ ∷ [], (ν₂ ∷ [], tt))) (args (ν₀ ∷ [], (ν₁ ∷ [], (ν₂ ∷ [], tt))) δ₀ δ₁ δ₂) ws)))) (id⊢ 𝓤 _) $ pick t (λ ws. split t $ move t (1 ∷ []) $
      use1 𝓛 (raw (fact 𝓤 (ψ r ws.0 ws.1.0 ws.1.1.0))) (ens (ν₀ ∷ [], (ν₁ ∷ [], (ν₂ ∷ [], tt))) δ₀ δ₁ δ₂ r ws) $ heard t (ψ r ws.0 ws.1.0 ws.1.1.0) (λ e.
      fsplit t $ fsplit t $ fsplit t $ move t (1 ∷ []) $ feq_l t (λ l₀. move t (1 ∷ []) $ drop t $ move t (1 ∷ []) $ fsplit t $ fsplit t $ fsplit t $ move t (1 ∷ []) $ feq_l t (λ l₁. move t (1 ∷ []) $ drop t $ move t (1 ∷ []) $ fsplit t $ fsplit t $ fsplit t $ move t (1 ∷ []) $ feq_l t (λ l₂. move t (1 ∷ []) $ drop t $ move t (1 ∷ []) $ drop t $ move t (3 ∷ []) $ split t $ move t (1 ∷ []) $ peeks t Q (Is Q) (shows 𝓛 Q) r (u ∷ []) (λ is. drop t $ split t $ move t (1 ∷ []) $ split t $ move t (1 ∷ []) $ split t $ move t (1 ∷ []) $ drop t $
      move t (2 ∷ 8 ∷ 5 ∷ []) $ back_mut t tt R₀ b₀ o₀ γ₀ ys₀ n₀ en₀ ν₀ δ₀ room₀ ws.0 l₀ (move t (3 ∷ 8 ∷ 5 ∷ []) $ back_mut t tt R₁ b₁ o₁ γ₁ ys₁ n₁ en₁ ν₁ δ₁ room₁ ws.1.0 l₁ (move t (4 ∷ 8 ∷ 5 ∷ []) $ back_mut t tt R₂ b₂ o₂ γ₂ ys₂ n₂ en₂ ν₂ δ₂ room₂ ws.1.1.0 l₂ (move t (6 ∷ []) $ drop t $ move t (6 ∷ []) $ drop t $ move t (4 ∷ 5 ∷ 2 ∷ 3 ∷ 0 ∷ 1 ∷ []) $ k u r ws.0 ws.1.0 ws.1.1.0 (l₀ ∙ en₀) (l₁ ∙ en₁) (l₂ ∙ en₂) e is))))))))))))))
    where
      args : (κs : Lfts 3) (δ₀ δ₁ δ₂ : GName) → Args (mut_mut_mut_ended R₀ R₁ R₂ Q ss ks).signature κs
      args κs δ₀ δ₁ δ₂ = (ref b₀ o₀ δ₀ ys₀, (ref b₁ o₁ δ₁ ys₁, (ref b₂ o₂ δ₂ ys₂, a κs)))

      y : (κs : Lfts 3) (δ₀ δ₁ δ₂ : GName) → (contract_of 𝓛 (mut_mut_mut_ended R₀ R₁ R₂ Q ss ks) c).Ghost
      y κs δ₀ δ₁ δ₂ = ((κs, (full_share, (full_share, (full_share, tt))), tt, (ref b₀ o₀ δ₀ ys₀, (ref b₁ o₁ δ₁ ys₁, (ref b₂ o₂ δ₂ ys₂, a κs))), (slice_val (b₀, o₀) n₀ ∷ [], (slice_val (b₁, o₁) n₁ ∷ [], (slice_val (b₂, o₂) n₂ ∷ [], vss κs)))), g κs δ₀ δ₁ δ₂)

      pre : (κs : Lfts 3) (δ₀ δ₁ δ₂ : GName) → SProp 𝓤
      pre κs δ₀ δ₁ δ₂ = (contract_of 𝓛 (mut_mut_mut_ended R₀ R₁ R₂ Q ss ks) c).pre (y κs δ₀ δ₁ δ₂)

      goes : (κs : Lfts 3) (δ₀ δ₁ δ₂ : GName) → ent 𝓤 (sem 𝓛 (fsep (flft κs.0 full_share) (fsep (flft κs.1.0 full_share) (fsep (flft κs.1.1.0 full_share) (fsep ((MutSlice (named 0) κs.0 R₀).own_val (ref b₀ o₀ δ₀ ys₀) (slice_val (b₀, o₀) n₀ ∷ [])) (fsep ((MutSlice (named 0) κs.1.0 R₁).own_val (ref b₁ o₁ δ₁ ys₁) (slice_val (b₁, o₁) n₁ ∷ [])) ((MutSlice (named 0) κs.1.1.0 R₂).own_val (ref b₂ o₂ δ₂ ys₂) (slice_val (b₂, o₂) n₂ ∷ [])))))))) (pre κs δ₀ δ₁ δ₂)
      goes κs δ₀ δ₁ δ₂ =
          qed 𝓛 (‵ (fsep (flft κs.0 full_share) (fsep (flft κs.1.0 full_share) (fsep (flft κs.1.1.0 full_share) (fsep ((MutSlice (named 0) κs.0 R₀).own_val (ref b₀ o₀ δ₀ ys₀) (slice_val (b₀, o₀) n₀ ∷ [])) (fsep ((MutSlice (named 0) κs.1.0 R₁).own_val (ref b₁ o₁ δ₁ ys₁) (slice_val (b₁, o₁) n₁ ∷ [])) ((MutSlice (named 0) κs.1.1.0 R₂).own_val (ref b₂ o₂ δ₂ ys₂) (slice_val (b₂, o₂) n₂ ∷ []))))))) ∷ []) ∵ fsplit ! $ move ! (1 ∷ []) $ fsplit ! $ move ! (1 ∷ []) $ fsplit ! $ move ! (1 ∷ []) $ fsplit ! $ move ! (1 ∷ []) $ fsplit ! $
          use0 𝓛 (raw ((c κs (ref b₀ o₀ δ₀ ys₀, (ref b₁ o₁ δ₁ ys₁, (ref b₂ o₂ δ₂ ys₂, a κs)))).requires (g κs δ₀ δ₁ δ₂))) (req κs δ₀ δ₁ δ₂) $ use0 𝓛 (‵ (owns (types_at ss κs) (a κs) (vss κs))) (own κs) $ move ! (3 ∷ 0 ∷ []) $ fjoin ! $ move ! (2 ∷ 0 ∷ []) $ fjoin ! $ move ! (2 ∷ 0 ∷ []) $ fjoin ! $ nothing ! $ move ! (3 ∷ 0 ∷ []) $ join ! $ move ! (3 ∷ 0 ∷ []) $ join ! $ move ! (3 ∷ 0 ∷ []) $ join ! $ join ! $ frame ! $ done !

  pub calls_mut_mut_shr : K → FmC 𝓤 H 𝓛.laws C → (R₀ R₁ R₂ Q : RattleType) (ss : List (Slot 3)) (ks : Kepts ss) (c : Clauses 𝓤 (mut_mut_shr_ended R₀ R₁ R₂ Q ss ks)) → Triple 𝓤 (C f) (contract_of 𝓛 (mut_mut_shr_ended R₀ R₁ R₂ Q ss ks) c)
      → {κ₀ : Lft} {q₀ : Share} (b₀ o₀ : ℕ) (γ₀ : GName) (ys₀ : List R₀.Denot) (n₀ : ℕ) → length ys₀ ≡ n₀
      → {κ₁ : Lft} {q₁ : Share} (b₁ o₁ : ℕ) (γ₁ : GName) (ys₁ : List R₁.Denot) (n₁ : ℕ) → length ys₁ ≡ n₁
      → {κ₂ : Lft} {q₂ : Share} (b₂ o₂ : ℕ) (ys₂ : List R₂.Denot) (n₂ : ℕ) → length ys₂ ≡ n₂ → RowLaws R₂
      → (a : (κs : Lfts 3) → Denots (types_at ss κs)) (vss : (κs : Lfts 3) → Valss (types_at ss κs)) → ((κs : Lfts 3) → ent 𝓤 (emp 𝓤) (sem 𝓛 (owns (types_at ss κs) (a κs) (vss κs))))
      → (g : (κs : Lfts 3) (δ₀ δ₁ : GName) → (c κs (ref b₀ o₀ δ₀ ys₀, (ref b₁ o₁ δ₁ ys₁, (seen b₂ o₂ ys₂, a κs)))).ghost) → ((κs : Lfts 3) (δ₀ δ₁ : GName) → ent 𝓤 (emp 𝓤) ((c κs (ref b₀ o₀ δ₀ ys₀, (ref b₁ o₁ δ₁ ys₁, (seen b₂ o₂ ys₂, a κs)))).requires (g κs δ₀ δ₁)))
      → (ψ : Q.Denot → List R₀.Denot → List R₁.Denot → Type 0) → ((κs : Lfts 3) (δ₀ δ₁ : GName) (r : Q.Denot) (ws : Lasts (mut_mut_shr_ended R₀ R₁ R₂ Q ss ks) κs (ref b₀ o₀ δ₀ ys₀, (ref b₁ o₁ δ₁ ys₁, (seen b₂ o₂ ys₂, a κs)))) → ent 𝓤 ((c κs (ref b₀ o₀ δ₀ ys₀, (ref b₁ o₁ δ₁ ys₁, (seen b₂ o₂ ys₂, a κs)))).ensures (g κs δ₀ δ₁) r (at_exit (mut_mut_shr_ended R₀ R₁ R₂ Q ss ks) κs (ref b₀ o₀ δ₀ ys₀, (ref b₁ o₁ δ₁ ys₁, (seen b₂ o₂ ys₂, a κs))) ws)) (fact 𝓤 (ψ r ws.0 ws.1.0)))
      → ((κs : Lfts 3) (δ₀ δ₁ : GName) → Opds K 𝓛 (raw ((contract_of 𝓛 (mut_mut_shr_ended R₀ R₁ R₂ Q ss ks) c).pre ((κs, (full_share, (full_share, (q₂, tt))), tt, (ref b₀ o₀ δ₀ ys₀, (ref b₁ o₁ δ₁ ys₁, (seen b₂ o₂ ys₂, a κs))), (slice_val (b₀, o₀) n₀ ∷ [], (slice_val (b₁, o₁) n₁ ∷ [], (slice_val (b₂, o₂) n₂ ∷ [], vss κs)))), g κs δ₀ δ₁)) ∷ ‵ ftrue ∷ ‵ ftrue ∷ ‵ (LentAgain R₀ κ₀ κs.0 q₀ γ₀ b₀ o₀ δ₀ ys₀) ∷ ‵ (LentAgain R₁ κ₁ κs.1.0 q₁ γ₁ b₁ o₁ δ₁ ys₁) ∷ ‵ ((ShrSlice (named 0) κ₂ R₂).own_val (seen b₂ o₂ ys₂) (slice_val (b₂, o₂) n₂ ∷ [])) ∷ Γ) E xs (slice_val (b₀, o₀) n₀ ∷ slice_val (b₁, o₁) n₁ ∷ slice_val (b₂, o₂) n₂ ∷ flat (types_at ss κs) (vss κs)))
      → ((u : Val) (r : Q.Denot) (zs₀ : List R₀.Denot) (zs₁ : List R₁.Denot) → length zs₀ ≡ n₀ → length zs₁ ≡ n₁ → ψ r zs₀ zs₁ → Is Q r (u ∷ []) → Seq K 𝓛 (‵ (flft κ₀ q₀) ∷ ‵ ((MutSlice (named 0) κ₀ R₀).own_val (ref b₀ o₀ γ₀ zs₀) (slice_val (b₀, o₀) n₀ ∷ [])) ∷ ‵ (flft κ₁ q₁) ∷ ‵ ((MutSlice (named 0) κ₁ R₁).own_val (ref b₁ o₁ γ₁ zs₁) (slice_val (b₁, o₁) n₁ ∷ [])) ∷ ‵ (flft κ₂ q₂) ∷ ‵ ((ShrSlice (named 0) κ₂ R₂).own_val (seen b₂ o₂ ys₂) (slice_val (b₂, o₂) n₂ ∷ [])) ∷ Γ) (lands C Λ E d u rest p))
      → Seq K 𝓛 (‵ (flft κ₀ q₀) ∷ ‵ ((MutSlice (named 0) κ₀ R₀).own_val (ref b₀ o₀ γ₀ ys₀) (slice_val (b₀, o₀) n₀ ∷ [])) ∷ ‵ (flft κ₁ q₁) ∷ ‵ ((MutSlice (named 0) κ₁ R₁).own_val (ref b₁ o₁ γ₁ ys₁) (slice_val (b₁, o₁) n₁ ∷ [])) ∷ ‵ (flft κ₂ q₂) ∷ ‵ ((ShrSlice (named 0) κ₂ R₂).own_val (seen b₂ o₂ ys₂) (slice_val (b₂, o₂) n₂ ∷ [])) ∷ Γ) (runs C Λ E (seq (call f xs d) rest) p)
  calls_mut_mut_shr t fm R₀ R₁ R₂ Q ss ks c known {κ₀} {q₀} b₀ o₀ γ₀ ys₀ n₀ en₀ {κ₁} {q₁} b₁ o₁ γ₁ ys₁ n₁ en₁ {κ₂} {q₂} b₂ o₂ ys₂ n₂ en₂ laws₂ a vss own g req ψ ens os k =
      lend_mut t tt R₀ b₀ o₀ γ₀ ys₀ n₀ en₀ (λ ν₀ δ₀ room₀.
      move t (3 ∷ 4 ∷ []) $ lend_mut t tt R₁ b₁ o₁ γ₁ ys₁ n₁ en₁ (λ ν₁ δ₁ room₁.
      move t (6 ∷ 7 ∷ []) $ lend_shr t R₂ laws₂ (seen b₂ o₂ ys₂) (slice_val (b₂, o₂) n₂ ∷ []) (
      move t (1 ∷ 4 ∷ 7 ∷ 0 ∷ 3 ∷ 6 ∷ []) $ move t (1 ∷ 0 ∷ []) $ fjoin t $ move t (1 ∷ 0 ∷ []) $ fjoin t $ move t (1 ∷ 0 ∷ []) $ fjoin t $ move t (1 ∷ 0 ∷ []) $ fjoin t $ move t (1 ∷ 0 ∷ []) $ fjoin t $ use1 𝓛 (raw (pre (ν₀ ∷ [], (ν₁ ∷ [], (κ₂, tt))) δ₀ δ₁)) (goes (ν₀ ∷ [], (ν₁ ∷ [], (κ₂, tt))) δ₀ δ₁) $ nothing t $ nothing t $ move t (2 ∷ 1 ∷ 0 ∷ 5 ∷ 4 ∷ 3 ∷ []) $
      calls_at t fm (contract_of 𝓛 (mut_mut_shr_ended R₀ R₁ R₂ Q ss ks) c) known (y (ν₀ ∷ [], (ν₁ ∷ [], (κ₂, tt))) δ₀ δ₁) (os (ν₀ ∷ [], (ν₁ ∷ [], (κ₂, tt))) δ₀ δ₁) (λ u.
      use1 𝓛 (later (some (λ (r : Q.Denot). ((‵ (flft (ν₀ ∷ []) full_share) ⊛ (‵ (flft (ν₁ ∷ []) full_share) ⊛ (‵ (flft κ₂ q₂) ⊛ ‵ ftrue))) ⊛ ‵ (Q.own_val r (u ∷ []))) ⊛ raw (ensured 𝓛 (mut_mut_shr_ended R₀ R₁ R₂ Q ss ks) c (ν₀ ∷ [], (ν₁ ∷ [], (κ₂, tt))) (args (ν₀ ∷ [], (ν₁ ∷ [], (κ₂, tt))) δ₀ δ₁) (g (ν₀ ∷ [], (ν₁ ∷ [], (κ₂, tt))) δ₀ δ₁) r)))) (id⊢ 𝓤 _) $ await t tt $ pick t (λ r. split t $ move t (1 ∷ []) $
      use1 𝓛 (some (λ (ws : Lasts (mut_mut_shr_ended R₀ R₁ R₂ Q ss ks) (ν₀ ∷ [], (ν₁ ∷ [], (κ₂, tt))) (args (ν₀ ∷ [], (ν₁ ∷ [], (κ₂, tt))) δ₀ δ₁)). ‵ (lasts (mut_mut_shr_ended R₀ R₁ R₂ Q ss ks) (ν₀ ∷ [], (ν₁ ∷ [], (κ₂, tt))) (args (ν₀ ∷ [], (ν₁ ∷ [], (κ₂, tt))) δ₀ δ₁) ws) ⊛ raw ((c (ν₀ ∷ [], (ν₁ ∷ [], (κ₂, tt))) (args (ν₀ ∷ [], (ν₁ ∷ [], (κ₂, tt))) δ₀ δ₁)).ensures (g (ν₀ ∷ [], (ν₁ ∷ [], (κ₂, tt))) δ₀ δ₁) r (at_exit (mut_mut_shr_ended R₀ R₁ R₂ Q ss ks) (ν₀ ∷ [], (ν₁ ∷ [], (κ₂, tt))) (args (ν₀ ∷ [], (ν₁ ∷ [], (κ₂, tt))) δ₀ δ₁) ws)))) (id⊢ 𝓤 _) $ pick t (λ ws. split t $ move t (1 ∷ []) $
      use1 𝓛 (raw (fact 𝓤 (ψ r ws.0 ws.1.0))) (ens (ν₀ ∷ [], (ν₁ ∷ [], (κ₂, tt))) δ₀ δ₁ r ws) $ heard t (ψ r ws.0 ws.1.0) (λ e.
      fsplit t $ fsplit t $ fsplit t $ move t (1 ∷ []) $ feq_l t (λ l₀. move t (1 ∷ []) $ drop t $ move t (1 ∷ []) $ fsplit t $ fsplit t $ fsplit t $ move t (1 ∷ []) $ feq_l t (λ l₁. move t (1 ∷ []) $ drop t $ move t (1 ∷ []) $ fsplit t $ drop t $ drop t $ move t (2 ∷ []) $ split t $ move t (1 ∷ []) $ peeks t Q (Is Q) (shows 𝓛 Q) r (u ∷ []) (λ is. drop t $ split t $ move t (1 ∷ []) $ split t $ move t (1 ∷ []) $ split t $ move t (1 ∷ []) $ drop t $
      move t (2 ∷ 7 ∷ 4 ∷ []) $ back_mut t tt R₀ b₀ o₀ γ₀ ys₀ n₀ en₀ ν₀ δ₀ room₀ ws.0 l₀ (move t (3 ∷ 7 ∷ 4 ∷ []) $ back_mut t tt R₁ b₁ o₁ γ₁ ys₁ n₁ en₁ ν₁ δ₁ room₁ ws.1.0 l₁ (move t (5 ∷ []) $ drop t $ move t (5 ∷ []) $ drop t $ move t (2 ∷ 3 ∷ 0 ∷ 1 ∷ 4 ∷ 5 ∷ []) $ k u r ws.0 ws.1.0 (l₀ ∙ en₀) (l₁ ∙ en₁) e is))))))))))))
    where
      args : (κs : Lfts 3) (δ₀ δ₁ : GName) → Args (mut_mut_shr_ended R₀ R₁ R₂ Q ss ks).signature κs
      args κs δ₀ δ₁ = (ref b₀ o₀ δ₀ ys₀, (ref b₁ o₁ δ₁ ys₁, (seen b₂ o₂ ys₂, a κs)))

      y : (κs : Lfts 3) (δ₀ δ₁ : GName) → (contract_of 𝓛 (mut_mut_shr_ended R₀ R₁ R₂ Q ss ks) c).Ghost
      y κs δ₀ δ₁ = ((κs, (full_share, (full_share, (q₂, tt))), tt, (ref b₀ o₀ δ₀ ys₀, (ref b₁ o₁ δ₁ ys₁, (seen b₂ o₂ ys₂, a κs))), (slice_val (b₀, o₀) n₀ ∷ [], (slice_val (b₁, o₁) n₁ ∷ [], (slice_val (b₂, o₂) n₂ ∷ [], vss κs)))), g κs δ₀ δ₁)

      pre : (κs : Lfts 3) (δ₀ δ₁ : GName) → SProp 𝓤
      pre κs δ₀ δ₁ = (contract_of 𝓛 (mut_mut_shr_ended R₀ R₁ R₂ Q ss ks) c).pre (y κs δ₀ δ₁)

      goes : (κs : Lfts 3) (δ₀ δ₁ : GName) → ent 𝓤 (sem 𝓛 (fsep (flft κs.0 full_share) (fsep (flft κs.1.0 full_share) (fsep (flft κs.1.1.0 q₂) (fsep ((MutSlice (named 0) κs.0 R₀).own_val (ref b₀ o₀ δ₀ ys₀) (slice_val (b₀, o₀) n₀ ∷ [])) (fsep ((MutSlice (named 0) κs.1.0 R₁).own_val (ref b₁ o₁ δ₁ ys₁) (slice_val (b₁, o₁) n₁ ∷ [])) ((ShrSlice (named 0) κs.1.1.0 R₂).own_val (seen b₂ o₂ ys₂) (slice_val (b₂, o₂) n₂ ∷ [])))))))) (pre κs δ₀ δ₁)
      goes κs δ₀ δ₁ =
          qed 𝓛 (‵ (fsep (flft κs.0 full_share) (fsep (flft κs.1.0 full_share) (fsep (flft κs.1.1.0 q₂) (fsep ((MutSlice (named 0) κs.0 R₀).own_val (ref b₀ o₀ δ₀ ys₀) (slice_val (b₀, o₀) n₀ ∷ [])) (fsep ((MutSlice (named 0) κs.1.0 R₁).own_val (ref b₁ o₁ δ₁ ys₁) (slice_val (b₁, o₁) n₁ ∷ [])) ((ShrSlice (named 0) κs.1.1.0 R₂).own_val (seen b₂ o₂ ys₂) (slice_val (b₂, o₂) n₂ ∷ []))))))) ∷ []) ∵ fsplit ! $ move ! (1 ∷ []) $ fsplit ! $ move ! (1 ∷ []) $ fsplit ! $ move ! (1 ∷ []) $ fsplit ! $ move ! (1 ∷ []) $ fsplit ! $
          use0 𝓛 (raw ((c κs (ref b₀ o₀ δ₀ ys₀, (ref b₁ o₁ δ₁ ys₁, (seen b₂ o₂ ys₂, a κs)))).requires (g κs δ₀ δ₁))) (req κs δ₀ δ₁) $ use0 𝓛 (‵ (owns (types_at ss κs) (a κs) (vss κs))) (own κs) $ move ! (3 ∷ 0 ∷ []) $ fjoin ! $ move ! (2 ∷ 0 ∷ []) $ fjoin ! $ move ! (2 ∷ 0 ∷ []) $ fjoin ! $ nothing ! $ move ! (3 ∷ 0 ∷ []) $ join ! $ move ! (3 ∷ 0 ∷ []) $ join ! $ move ! (3 ∷ 0 ∷ []) $ join ! $ join ! $ frame ! $ done !

  pub calls_mut_mut_view : K → FmC 𝓤 H 𝓛.laws C → (R₀ R₁ R₂ Q : RattleType) (ss : List (Slot 3)) (ks : Kepts ss) (c : Clauses 𝓤 (mut_mut_shr_ended R₀ R₁ R₂ Q ss ks)) → Triple 𝓤 (C f) (contract_of 𝓛 (mut_mut_shr_ended R₀ R₁ R₂ Q ss ks) c)
      → {κ₀ : Lft} {q₀ : Share} (b₀ o₀ : ℕ) (γ₀ : GName) (ys₀ : List R₀.Denot) (n₀ : ℕ) → length ys₀ ≡ n₀
      → {κ₁ : Lft} {q₁ : Share} (b₁ o₁ : ℕ) (γ₁ : GName) (ys₁ : List R₁.Denot) (n₁ : ℕ) → length ys₁ ≡ n₁
      → {κ₂ : Lft} {q₂ : Share} (b₂ o₂ : ℕ) (γ₂ : GName) (ys₂ : List R₂.Denot) (n₂ : ℕ) → length ys₂ ≡ n₂ → Shares 𝓛 R₂ R₂.lives → Incl κ₂ R₂.lives
      → (a : (κs : Lfts 3) → Denots (types_at ss κs)) (vss : (κs : Lfts 3) → Valss (types_at ss κs)) → ((κs : Lfts 3) → ent 𝓤 (emp 𝓤) (sem 𝓛 (owns (types_at ss κs) (a κs) (vss κs))))
      → (g : (κs : Lfts 3) (δ₀ δ₁ : GName) → (c κs (ref b₀ o₀ δ₀ ys₀, (ref b₁ o₁ δ₁ ys₁, (seen b₂ o₂ ys₂, a κs)))).ghost) → ((κs : Lfts 3) (δ₀ δ₁ : GName) → ent 𝓤 (emp 𝓤) ((c κs (ref b₀ o₀ δ₀ ys₀, (ref b₁ o₁ δ₁ ys₁, (seen b₂ o₂ ys₂, a κs)))).requires (g κs δ₀ δ₁)))
      → (ψ : Q.Denot → List R₀.Denot → List R₁.Denot → Type 0) → ((κs : Lfts 3) (δ₀ δ₁ : GName) (r : Q.Denot) (ws : Lasts (mut_mut_shr_ended R₀ R₁ R₂ Q ss ks) κs (ref b₀ o₀ δ₀ ys₀, (ref b₁ o₁ δ₁ ys₁, (seen b₂ o₂ ys₂, a κs)))) → ent 𝓤 ((c κs (ref b₀ o₀ δ₀ ys₀, (ref b₁ o₁ δ₁ ys₁, (seen b₂ o₂ ys₂, a κs)))).ensures (g κs δ₀ δ₁) r (at_exit (mut_mut_shr_ended R₀ R₁ R₂ Q ss ks) κs (ref b₀ o₀ δ₀ ys₀, (ref b₁ o₁ δ₁ ys₁, (seen b₂ o₂ ys₂, a κs))) ws)) (fact 𝓤 (ψ r ws.0 ws.1.0)))
      → ((κs : Lfts 3) (δ₀ δ₁ : GName) → Opds K 𝓛 (raw ((contract_of 𝓛 (mut_mut_shr_ended R₀ R₁ R₂ Q ss ks) c).pre ((κs, (full_share, (full_share, (full_share, tt))), tt, (ref b₀ o₀ δ₀ ys₀, (ref b₁ o₁ δ₁ ys₁, (seen b₂ o₂ ys₂, a κs))), (slice_val (b₀, o₀) n₀ ∷ [], (slice_val (b₁, o₁) n₁ ∷ [], (slice_val (b₂, o₂) n₂ ∷ [], vss κs)))), g κs δ₀ δ₁)) ∷ ‵ ftrue ∷ ‵ ftrue ∷ ‵ (LentAgain R₀ κ₀ κs.0 q₀ γ₀ b₀ o₀ δ₀ ys₀) ∷ ‵ (LentAgain R₁ κ₁ κs.1.0 q₁ γ₁ b₁ o₁ δ₁ ys₁) ∷ ‵ (Viewed R₂ κ₂ κs.1.1.0 q₂ γ₂ b₂ o₂ ys₂) ∷ Γ) E xs (slice_val (b₀, o₀) n₀ ∷ slice_val (b₁, o₁) n₁ ∷ slice_val (b₂, o₂) n₂ ∷ flat (types_at ss κs) (vss κs)))
      → ((u : Val) (r : Q.Denot) (zs₀ : List R₀.Denot) (zs₁ : List R₁.Denot) → length zs₀ ≡ n₀ → length zs₁ ≡ n₁ → ψ r zs₀ zs₁ → Is Q r (u ∷ []) → Seq K 𝓛 (‵ (flft κ₀ q₀) ∷ ‵ ((MutSlice (named 0) κ₀ R₀).own_val (ref b₀ o₀ γ₀ zs₀) (slice_val (b₀, o₀) n₀ ∷ [])) ∷ ‵ (flft κ₁ q₁) ∷ ‵ ((MutSlice (named 0) κ₁ R₁).own_val (ref b₁ o₁ γ₁ zs₁) (slice_val (b₁, o₁) n₁ ∷ [])) ∷ ‵ (flft κ₂ q₂) ∷ ‵ ((MutSlice (named 0) κ₂ R₂).own_val (ref b₂ o₂ γ₂ ys₂) (slice_val (b₂, o₂) n₂ ∷ [])) ∷ Γ) (lands C Λ E d u rest p))
      → Seq K 𝓛 (‵ (flft κ₀ q₀) ∷ ‵ ((MutSlice (named 0) κ₀ R₀).own_val (ref b₀ o₀ γ₀ ys₀) (slice_val (b₀, o₀) n₀ ∷ [])) ∷ ‵ (flft κ₁ q₁) ∷ ‵ ((MutSlice (named 0) κ₁ R₁).own_val (ref b₁ o₁ γ₁ ys₁) (slice_val (b₁, o₁) n₁ ∷ [])) ∷ ‵ (flft κ₂ q₂) ∷ ‵ ((MutSlice (named 0) κ₂ R₂).own_val (ref b₂ o₂ γ₂ ys₂) (slice_val (b₂, o₂) n₂ ∷ [])) ∷ Γ) (runs C Λ E (seq (call f xs d) rest) p)
  calls_mut_mut_view t fm R₀ R₁ R₂ Q ss ks c known {κ₀} {q₀} b₀ o₀ γ₀ ys₀ n₀ en₀ {κ₁} {q₁} b₁ o₁ γ₁ ys₁ n₁ en₁ {κ₂} {q₂} b₂ o₂ γ₂ ys₂ n₂ en₂ shares₂ within₂ a vss own g req ψ ens os k =
      lend_mut t tt R₀ b₀ o₀ γ₀ ys₀ n₀ en₀ (λ ν₀ δ₀ room₀.
      move t (3 ∷ 4 ∷ []) $ lend_mut t tt R₁ b₁ o₁ γ₁ ys₁ n₁ en₁ (λ ν₁ δ₁ room₁.
      move t (6 ∷ 7 ∷ []) $ lend_view t tt R₂ b₂ o₂ γ₂ ys₂ n₂ en₂ shares₂ within₂ (λ ν₂ room₂.
      move t (1 ∷ 4 ∷ 7 ∷ 0 ∷ 3 ∷ 6 ∷ []) $ move t (1 ∷ 0 ∷ []) $ fjoin t $ move t (1 ∷ 0 ∷ []) $ fjoin t $ move t (1 ∷ 0 ∷ []) $ fjoin t $ move t (1 ∷ 0 ∷ []) $ fjoin t $ move t (1 ∷ 0 ∷ []) $ fjoin t $ use1 𝓛 (raw (pre (ν₀ ∷ [], (ν₁ ∷ [], (ν₂ ∷ [], tt))) δ₀ δ₁)) (goes (ν₀ ∷ [], (ν₁ ∷ [], (ν₂ ∷ [], tt))) δ₀ δ₁) $ nothing t $ nothing t $ move t (2 ∷ 1 ∷ 0 ∷ 5 ∷ 4 ∷ 3 ∷ []) $
      calls_at t fm (contract_of 𝓛 (mut_mut_shr_ended R₀ R₁ R₂ Q ss ks) c) known (y (ν₀ ∷ [], (ν₁ ∷ [], (ν₂ ∷ [], tt))) δ₀ δ₁) (os (ν₀ ∷ [], (ν₁ ∷ [], (ν₂ ∷ [], tt))) δ₀ δ₁) (λ u.
      use1 𝓛 (later (some (λ (r : Q.Denot). ((‵ (flft (ν₀ ∷ []) full_share) ⊛ (‵ (flft (ν₁ ∷ []) full_share) ⊛ (‵ (flft (ν₂ ∷ []) full_share) ⊛ ‵ ftrue))) ⊛ ‵ (Q.own_val r (u ∷ []))) ⊛ raw (ensured 𝓛 (mut_mut_shr_ended R₀ R₁ R₂ Q ss ks) c (ν₀ ∷ [], (ν₁ ∷ [], (ν₂ ∷ [], tt))) (args (ν₀ ∷ [], (ν₁ ∷ [], (ν₂ ∷ [], tt))) δ₀ δ₁) (g (ν₀ ∷ [], (ν₁ ∷ [], (ν₂ ∷ [], tt))) δ₀ δ₁) r)))) (id⊢ 𝓤 _) $ await t tt $ pick t (λ r. split t $ move t (1 ∷ []) $
      use1 𝓛 (some (λ (ws : Lasts (mut_mut_shr_ended R₀ R₁ R₂ Q ss ks) (ν₀ ∷ [], (ν₁ ∷ [], (ν₂ ∷ [], tt))) (args (ν₀ ∷ [], (ν₁ ∷ [], (ν₂ ∷ [], tt))) δ₀ δ₁)). ‵ (lasts (mut_mut_shr_ended R₀ R₁ R₂ Q ss ks) (ν₀ ∷ [], (ν₁ ∷ [], (ν₂ ∷ [], tt))) (args (ν₀ ∷ [], (ν₁ ∷ [], (ν₂ ∷ [], tt))) δ₀ δ₁) ws) ⊛ raw ((c (ν₀ ∷ [], (ν₁ ∷ [], (ν₂ ∷ [], tt))) (args (ν₀ ∷ [], (ν₁ ∷ [], (ν₂ ∷ [], tt))) δ₀ δ₁)).ensures (g (ν₀ ∷ [], (ν₁ ∷ [], (ν₂ ∷ [], tt))) δ₀ δ₁) r (at_exit (mut_mut_shr_ended R₀ R₁ R₂ Q ss ks) (ν₀ ∷ [], (ν₁ ∷ [], (ν₂ ∷ [], tt))) (args (ν₀ ∷ [], (ν₁ ∷ [], (ν₂ ∷ [], tt))) δ₀ δ₁) ws)))) (id⊢ 𝓤 _) $ pick t (λ ws. split t $ move t (1 ∷ []) $
      use1 𝓛 (raw (fact 𝓤 (ψ r ws.0 ws.1.0))) (ens (ν₀ ∷ [], (ν₁ ∷ [], (ν₂ ∷ [], tt))) δ₀ δ₁ r ws) $ heard t (ψ r ws.0 ws.1.0) (λ e.
      fsplit t $ fsplit t $ fsplit t $ move t (1 ∷ []) $ feq_l t (λ l₀. move t (1 ∷ []) $ drop t $ move t (1 ∷ []) $ fsplit t $ fsplit t $ fsplit t $ move t (1 ∷ []) $ feq_l t (λ l₁. move t (1 ∷ []) $ drop t $ move t (1 ∷ []) $ fsplit t $ drop t $ drop t $ move t (2 ∷ []) $ split t $ move t (1 ∷ []) $ peeks t Q (Is Q) (shows 𝓛 Q) r (u ∷ []) (λ is. drop t $ split t $ move t (1 ∷ []) $ split t $ move t (1 ∷ []) $ split t $ move t (1 ∷ []) $ drop t $
      move t (2 ∷ 7 ∷ 4 ∷ []) $ back_mut t tt R₀ b₀ o₀ γ₀ ys₀ n₀ en₀ ν₀ δ₀ room₀ ws.0 l₀ (move t (3 ∷ 7 ∷ 4 ∷ []) $ back_mut t tt R₁ b₁ o₁ γ₁ ys₁ n₁ en₁ ν₁ δ₁ room₁ ws.1.0 l₁ (move t (4 ∷ 7 ∷ []) $ back_view t tt R₂ b₂ o₂ γ₂ ys₂ n₂ en₂ ν₂ room₂ (move t (6 ∷ []) $ drop t $ move t (6 ∷ []) $ drop t $ move t (4 ∷ 5 ∷ 2 ∷ 3 ∷ 0 ∷ 1 ∷ []) $ k u r ws.0 ws.1.0 (l₀ ∙ en₀) (l₁ ∙ en₁) e is)))))))))))))
    where
      args : (κs : Lfts 3) (δ₀ δ₁ : GName) → Args (mut_mut_shr_ended R₀ R₁ R₂ Q ss ks).signature κs
      args κs δ₀ δ₁ = (ref b₀ o₀ δ₀ ys₀, (ref b₁ o₁ δ₁ ys₁, (seen b₂ o₂ ys₂, a κs)))

      y : (κs : Lfts 3) (δ₀ δ₁ : GName) → (contract_of 𝓛 (mut_mut_shr_ended R₀ R₁ R₂ Q ss ks) c).Ghost
      y κs δ₀ δ₁ = ((κs, (full_share, (full_share, (full_share, tt))), tt, (ref b₀ o₀ δ₀ ys₀, (ref b₁ o₁ δ₁ ys₁, (seen b₂ o₂ ys₂, a κs))), (slice_val (b₀, o₀) n₀ ∷ [], (slice_val (b₁, o₁) n₁ ∷ [], (slice_val (b₂, o₂) n₂ ∷ [], vss κs)))), g κs δ₀ δ₁)

      pre : (κs : Lfts 3) (δ₀ δ₁ : GName) → SProp 𝓤
      pre κs δ₀ δ₁ = (contract_of 𝓛 (mut_mut_shr_ended R₀ R₁ R₂ Q ss ks) c).pre (y κs δ₀ δ₁)

      goes : (κs : Lfts 3) (δ₀ δ₁ : GName) → ent 𝓤 (sem 𝓛 (fsep (flft κs.0 full_share) (fsep (flft κs.1.0 full_share) (fsep (flft κs.1.1.0 full_share) (fsep ((MutSlice (named 0) κs.0 R₀).own_val (ref b₀ o₀ δ₀ ys₀) (slice_val (b₀, o₀) n₀ ∷ [])) (fsep ((MutSlice (named 0) κs.1.0 R₁).own_val (ref b₁ o₁ δ₁ ys₁) (slice_val (b₁, o₁) n₁ ∷ [])) ((ShrSlice (named 0) κs.1.1.0 R₂).own_val (seen b₂ o₂ ys₂) (slice_val (b₂, o₂) n₂ ∷ [])))))))) (pre κs δ₀ δ₁)
      goes κs δ₀ δ₁ =
          qed 𝓛 (‵ (fsep (flft κs.0 full_share) (fsep (flft κs.1.0 full_share) (fsep (flft κs.1.1.0 full_share) (fsep ((MutSlice (named 0) κs.0 R₀).own_val (ref b₀ o₀ δ₀ ys₀) (slice_val (b₀, o₀) n₀ ∷ [])) (fsep ((MutSlice (named 0) κs.1.0 R₁).own_val (ref b₁ o₁ δ₁ ys₁) (slice_val (b₁, o₁) n₁ ∷ [])) ((ShrSlice (named 0) κs.1.1.0 R₂).own_val (seen b₂ o₂ ys₂) (slice_val (b₂, o₂) n₂ ∷ []))))))) ∷ []) ∵ fsplit ! $ move ! (1 ∷ []) $ fsplit ! $ move ! (1 ∷ []) $ fsplit ! $ move ! (1 ∷ []) $ fsplit ! $ move ! (1 ∷ []) $ fsplit ! $
          use0 𝓛 (raw ((c κs (ref b₀ o₀ δ₀ ys₀, (ref b₁ o₁ δ₁ ys₁, (seen b₂ o₂ ys₂, a κs)))).requires (g κs δ₀ δ₁))) (req κs δ₀ δ₁) $ use0 𝓛 (‵ (owns (types_at ss κs) (a κs) (vss κs))) (own κs) $ move ! (3 ∷ 0 ∷ []) $ fjoin ! $ move ! (2 ∷ 0 ∷ []) $ fjoin ! $ move ! (2 ∷ 0 ∷ []) $ fjoin ! $ nothing ! $ move ! (3 ∷ 0 ∷ []) $ join ! $ move ! (3 ∷ 0 ∷ []) $ join ! $ move ! (3 ∷ 0 ∷ []) $ join ! $ join ! $ frame ! $ done !

  pub calls_shr_shr_front : K → FmC 𝓤 H 𝓛.laws C → (R₀ R₁ R₂ Q : RattleType) (ss : List (Slot 3)) (ks : Kepts ss) (c : Clauses 𝓤 (shr_shr_mut_ended R₀ R₁ R₂ Q ss ks)) → Triple 𝓤 (C f) (contract_of 𝓛 (shr_shr_mut_ended R₀ R₁ R₂ Q ss ks) c)
      → {κ₀ : Lft} {q₀ : Share} (b₀ o₀ : ℕ) (ys₀ : List R₀.Denot) (n₀ : ℕ) → length ys₀ ≡ n₀ → RowLaws R₀
      → {κ₁ : Lft} {q₁ : Share} (b₁ o₁ : ℕ) (ys₁ : List R₁.Denot) (n₁ : ℕ) → length ys₁ ≡ n₁ → RowLaws R₁
      → {κ₂ : Lft} {q₂ : Share} (b₂ o₂ : ℕ) (γ₂ : GName) (ys₂ : List R₂.Denot) (n₂ : ℕ) → length ys₂ ≡ n₂ → (m₂ : ℕ) → m₂ ≤ n₂
      → (a : (κs : Lfts 3) → Denots (types_at ss κs)) (vss : (κs : Lfts 3) → Valss (types_at ss κs)) → ((κs : Lfts 3) → ent 𝓤 (emp 𝓤) (sem 𝓛 (owns (types_at ss κs) (a κs) (vss κs))))
      → (g : (κs : Lfts 3) (δ₂ : GName) → (c κs (seen b₀ o₀ ys₀, (seen b₁ o₁ ys₁, (ref b₂ o₂ δ₂ (front m₂ ys₂), a κs)))).ghost) → ((κs : Lfts 3) (δ₂ : GName) → ent 𝓤 (emp 𝓤) ((c κs (seen b₀ o₀ ys₀, (seen b₁ o₁ ys₁, (ref b₂ o₂ δ₂ (front m₂ ys₂), a κs)))).requires (g κs δ₂)))
      → (ψ : Q.Denot → List R₂.Denot → Type 0) → ((κs : Lfts 3) (δ₂ : GName) (r : Q.Denot) (ws : Lasts (shr_shr_mut_ended R₀ R₁ R₂ Q ss ks) κs (seen b₀ o₀ ys₀, (seen b₁ o₁ ys₁, (ref b₂ o₂ δ₂ (front m₂ ys₂), a κs)))) → ent 𝓤 ((c κs (seen b₀ o₀ ys₀, (seen b₁ o₁ ys₁, (ref b₂ o₂ δ₂ (front m₂ ys₂), a κs)))).ensures (g κs δ₂) r (at_exit (shr_shr_mut_ended R₀ R₁ R₂ Q ss ks) κs (seen b₀ o₀ ys₀, (seen b₁ o₁ ys₁, (ref b₂ o₂ δ₂ (front m₂ ys₂), a κs))) ws)) (fact 𝓤 (ψ r ws.1.1.0)))
      → ((κs : Lfts 3) (δ₂ : GName) → Opds K 𝓛 (raw ((contract_of 𝓛 (shr_shr_mut_ended R₀ R₁ R₂ Q ss ks) c).pre ((κs, (q₀, (q₁, (full_share, tt))), tt, (seen b₀ o₀ ys₀, (seen b₁ o₁ ys₁, (ref b₂ o₂ δ₂ (front m₂ ys₂), a κs))), (slice_val (b₀, o₀) n₀ ∷ [], (slice_val (b₁, o₁) n₁ ∷ [], (slice_val (b₂, o₂) m₂ ∷ [], vss κs)))), g κs δ₂)) ∷ ‵ ftrue ∷ ‵ ftrue ∷ ‵ ((ShrSlice (named 0) κ₀ R₀).own_val (seen b₀ o₀ ys₀) (slice_val (b₀, o₀) n₀ ∷ [])) ∷ ‵ ((ShrSlice (named 0) κ₁ R₁).own_val (seen b₁ o₁ ys₁) (slice_val (b₁, o₁) n₁ ∷ [])) ∷ ‵ (LentFront R₂ κ₂ κs.1.1.0 q₂ γ₂ b₂ o₂ δ₂ m₂ ys₂) ∷ Γ) E xs (slice_val (b₀, o₀) n₀ ∷ slice_val (b₁, o₁) n₁ ∷ slice_val (b₂, o₂) m₂ ∷ flat (types_at ss κs) (vss κs)))
      → ((u : Val) (r : Q.Denot) (zs₂ : List R₂.Denot) → length zs₂ ≡ m₂ → ψ r zs₂ → Is Q r (u ∷ []) → Seq K 𝓛 (‵ (flft κ₀ q₀) ∷ ‵ ((ShrSlice (named 0) κ₀ R₀).own_val (seen b₀ o₀ ys₀) (slice_val (b₀, o₀) n₀ ∷ [])) ∷ ‵ (flft κ₁ q₁) ∷ ‵ ((ShrSlice (named 0) κ₁ R₁).own_val (seen b₁ o₁ ys₁) (slice_val (b₁, o₁) n₁ ∷ [])) ∷ ‵ (flft κ₂ q₂) ∷ ‵ ((MutSlice (named 0) κ₂ R₂).own_val (ref b₂ o₂ γ₂ (refronted m₂ ys₂ zs₂)) (slice_val (b₂, o₂) n₂ ∷ [])) ∷ Γ) (lands C Λ E d u rest p))
      → Seq K 𝓛 (‵ (flft κ₀ q₀) ∷ ‵ ((ShrSlice (named 0) κ₀ R₀).own_val (seen b₀ o₀ ys₀) (slice_val (b₀, o₀) n₀ ∷ [])) ∷ ‵ (flft κ₁ q₁) ∷ ‵ ((ShrSlice (named 0) κ₁ R₁).own_val (seen b₁ o₁ ys₁) (slice_val (b₁, o₁) n₁ ∷ [])) ∷ ‵ (flft κ₂ q₂) ∷ ‵ ((MutSlice (named 0) κ₂ R₂).own_val (ref b₂ o₂ γ₂ ys₂) (slice_val (b₂, o₂) n₂ ∷ [])) ∷ Γ) (runs C Λ E (seq (call f xs d) rest) p)
  calls_shr_shr_front t fm R₀ R₁ R₂ Q ss ks c known {κ₀} {q₀} b₀ o₀ ys₀ n₀ en₀ laws₀ {κ₁} {q₁} b₁ o₁ ys₁ n₁ en₁ laws₁ {κ₂} {q₂} b₂ o₂ γ₂ ys₂ n₂ en₂ m₂ le₂ a vss own g req ψ ens os k =
      lend_shr t R₀ laws₀ (seen b₀ o₀ ys₀) (slice_val (b₀, o₀) n₀ ∷ []) (
      move t (3 ∷ 4 ∷ []) $ lend_shr t R₁ laws₁ (seen b₁ o₁ ys₁) (slice_val (b₁, o₁) n₁ ∷ []) (
      move t (6 ∷ 7 ∷ []) $ lend_front t tt R₂ b₂ o₂ γ₂ ys₂ n₂ en₂ m₂ le₂ (λ ν₂ δ₂ room₂.
      move t (1 ∷ 4 ∷ 7 ∷ 0 ∷ 3 ∷ 6 ∷ []) $ move t (1 ∷ 0 ∷ []) $ fjoin t $ move t (1 ∷ 0 ∷ []) $ fjoin t $ move t (1 ∷ 0 ∷ []) $ fjoin t $ move t (1 ∷ 0 ∷ []) $ fjoin t $ move t (1 ∷ 0 ∷ []) $ fjoin t $ use1 𝓛 (raw (pre (κ₀, (κ₁, (ν₂ ∷ [], tt))) δ₂)) (goes (κ₀, (κ₁, (ν₂ ∷ [], tt))) δ₂) $ nothing t $ nothing t $ move t (2 ∷ 1 ∷ 0 ∷ 5 ∷ 4 ∷ 3 ∷ []) $
      calls_at t fm (contract_of 𝓛 (shr_shr_mut_ended R₀ R₁ R₂ Q ss ks) c) known (y (κ₀, (κ₁, (ν₂ ∷ [], tt))) δ₂) (os (κ₀, (κ₁, (ν₂ ∷ [], tt))) δ₂) (λ u.
      use1 𝓛 (later (some (λ (r : Q.Denot). ((‵ (flft κ₀ q₀) ⊛ (‵ (flft κ₁ q₁) ⊛ (‵ (flft (ν₂ ∷ []) full_share) ⊛ ‵ ftrue))) ⊛ ‵ (Q.own_val r (u ∷ []))) ⊛ raw (ensured 𝓛 (shr_shr_mut_ended R₀ R₁ R₂ Q ss ks) c (κ₀, (κ₁, (ν₂ ∷ [], tt))) (args (κ₀, (κ₁, (ν₂ ∷ [], tt))) δ₂) (g (κ₀, (κ₁, (ν₂ ∷ [], tt))) δ₂) r)))) (id⊢ 𝓤 _) $ await t tt $ pick t (λ r. split t $ move t (1 ∷ []) $
      use1 𝓛 (some (λ (ws : Lasts (shr_shr_mut_ended R₀ R₁ R₂ Q ss ks) (κ₀, (κ₁, (ν₂ ∷ [], tt))) (args (κ₀, (κ₁, (ν₂ ∷ [], tt))) δ₂)). ‵ (lasts (shr_shr_mut_ended R₀ R₁ R₂ Q ss ks) (κ₀, (κ₁, (ν₂ ∷ [], tt))) (args (κ₀, (κ₁, (ν₂ ∷ [], tt))) δ₂) ws) ⊛ raw ((c (κ₀, (κ₁, (ν₂ ∷ [], tt))) (args (κ₀, (κ₁, (ν₂ ∷ [], tt))) δ₂)).ensures (g (κ₀, (κ₁, (ν₂ ∷ [], tt))) δ₂) r (at_exit (shr_shr_mut_ended R₀ R₁ R₂ Q ss ks) (κ₀, (κ₁, (ν₂ ∷ [], tt))) (args (κ₀, (κ₁, (ν₂ ∷ [], tt))) δ₂) ws)))) (id⊢ 𝓤 _) $ pick t (λ ws. split t $ move t (1 ∷ []) $
      use1 𝓛 (raw (fact 𝓤 (ψ r ws.1.1.0))) (ens (κ₀, (κ₁, (ν₂ ∷ [], tt))) δ₂ r ws) $ heard t (ψ r ws.1.1.0) (λ e.
      fsplit t $ drop t $ fsplit t $ drop t $ fsplit t $ fsplit t $ fsplit t $ move t (1 ∷ []) $ feq_l t (λ l₂. move t (1 ∷ []) $ drop t $ move t (1 ∷ []) $ drop t $ move t (1 ∷ []) $ split t $ move t (1 ∷ []) $ peeks t Q (Is Q) (shows 𝓛 Q) r (u ∷ []) (λ is. drop t $ split t $ move t (1 ∷ []) $ split t $ move t (1 ∷ []) $ split t $ move t (1 ∷ []) $ drop t $
      move t (0 ∷ 8 ∷ 3 ∷ []) $ back_front t tt R₂ b₂ o₂ γ₂ ys₂ n₂ en₂ m₂ ν₂ δ₂ room₂ ws.1.1.0 l₂ (move t (4 ∷ []) $ drop t $ move t (4 ∷ []) $ drop t $ move t (3 ∷ 4 ∷ 2 ∷ 5 ∷ 0 ∷ 1 ∷ []) $ k u r ws.1.1.0 (l₂ ∙ front_size m₂ ys₂ n₂ en₂ le₂) e is))))))))))
    where
      args : (κs : Lfts 3) (δ₂ : GName) → Args (shr_shr_mut_ended R₀ R₁ R₂ Q ss ks).signature κs
      args κs δ₂ = (seen b₀ o₀ ys₀, (seen b₁ o₁ ys₁, (ref b₂ o₂ δ₂ (front m₂ ys₂), a κs)))

      y : (κs : Lfts 3) (δ₂ : GName) → (contract_of 𝓛 (shr_shr_mut_ended R₀ R₁ R₂ Q ss ks) c).Ghost
      y κs δ₂ = ((κs, (q₀, (q₁, (full_share, tt))), tt, (seen b₀ o₀ ys₀, (seen b₁ o₁ ys₁, (ref b₂ o₂ δ₂ (front m₂ ys₂), a κs))), (slice_val (b₀, o₀) n₀ ∷ [], (slice_val (b₁, o₁) n₁ ∷ [], (slice_val (b₂, o₂) m₂ ∷ [], vss κs)))), g κs δ₂)

      pre : (κs : Lfts 3) (δ₂ : GName) → SProp 𝓤
      pre κs δ₂ = (contract_of 𝓛 (shr_shr_mut_ended R₀ R₁ R₂ Q ss ks) c).pre (y κs δ₂)

      goes : (κs : Lfts 3) (δ₂ : GName) → ent 𝓤 (sem 𝓛 (fsep (flft κs.0 q₀) (fsep (flft κs.1.0 q₁) (fsep (flft κs.1.1.0 full_share) (fsep ((ShrSlice (named 0) κs.0 R₀).own_val (seen b₀ o₀ ys₀) (slice_val (b₀, o₀) n₀ ∷ [])) (fsep ((ShrSlice (named 0) κs.1.0 R₁).own_val (seen b₁ o₁ ys₁) (slice_val (b₁, o₁) n₁ ∷ [])) ((MutSlice (named 0) κs.1.1.0 R₂).own_val (ref b₂ o₂ δ₂ (front m₂ ys₂)) (slice_val (b₂, o₂) m₂ ∷ [])))))))) (pre κs δ₂)
      goes κs δ₂ =
          qed 𝓛 (‵ (fsep (flft κs.0 q₀) (fsep (flft κs.1.0 q₁) (fsep (flft κs.1.1.0 full_share) (fsep ((ShrSlice (named 0) κs.0 R₀).own_val (seen b₀ o₀ ys₀) (slice_val (b₀, o₀) n₀ ∷ [])) (fsep ((ShrSlice (named 0) κs.1.0 R₁).own_val (seen b₁ o₁ ys₁) (slice_val (b₁, o₁) n₁ ∷ [])) ((MutSlice (named 0) κs.1.1.0 R₂).own_val (ref b₂ o₂ δ₂ (front m₂ ys₂)) (slice_val (b₂, o₂) m₂ ∷ []))))))) ∷ []) ∵ fsplit ! $ move ! (1 ∷ []) $ fsplit ! $ move ! (1 ∷ []) $ fsplit ! $ move ! (1 ∷ []) $ fsplit ! $ move ! (1 ∷ []) $ fsplit ! $
          use0 𝓛 (raw ((c κs (seen b₀ o₀ ys₀, (seen b₁ o₁ ys₁, (ref b₂ o₂ δ₂ (front m₂ ys₂), a κs)))).requires (g κs δ₂))) (req κs δ₂) $ use0 𝓛 (‵ (owns (types_at ss κs) (a κs) (vss κs))) (own κs) $ move ! (3 ∷ 0 ∷ []) $ fjoin ! $ move ! (2 ∷ 0 ∷ []) $ fjoin ! $ move ! (2 ∷ 0 ∷ []) $ fjoin ! $ nothing ! $ move ! (3 ∷ 0 ∷ []) $ join ! $ move ! (3 ∷ 0 ∷ []) $ join ! $ move ! (3 ∷ 0 ∷ []) $ join ! $ join ! $ frame ! $ done !

  pub calls_shr_shr_mut : K → FmC 𝓤 H 𝓛.laws C → (R₀ R₁ R₂ Q : RattleType) (ss : List (Slot 3)) (ks : Kepts ss) (c : Clauses 𝓤 (shr_shr_mut_ended R₀ R₁ R₂ Q ss ks)) → Triple 𝓤 (C f) (contract_of 𝓛 (shr_shr_mut_ended R₀ R₁ R₂ Q ss ks) c)
      → {κ₀ : Lft} {q₀ : Share} (b₀ o₀ : ℕ) (ys₀ : List R₀.Denot) (n₀ : ℕ) → length ys₀ ≡ n₀ → RowLaws R₀
      → {κ₁ : Lft} {q₁ : Share} (b₁ o₁ : ℕ) (ys₁ : List R₁.Denot) (n₁ : ℕ) → length ys₁ ≡ n₁ → RowLaws R₁
      → {κ₂ : Lft} {q₂ : Share} (b₂ o₂ : ℕ) (γ₂ : GName) (ys₂ : List R₂.Denot) (n₂ : ℕ) → length ys₂ ≡ n₂
      → (a : (κs : Lfts 3) → Denots (types_at ss κs)) (vss : (κs : Lfts 3) → Valss (types_at ss κs)) → ((κs : Lfts 3) → ent 𝓤 (emp 𝓤) (sem 𝓛 (owns (types_at ss κs) (a κs) (vss κs))))
      → (g : (κs : Lfts 3) (δ₂ : GName) → (c κs (seen b₀ o₀ ys₀, (seen b₁ o₁ ys₁, (ref b₂ o₂ δ₂ ys₂, a κs)))).ghost) → ((κs : Lfts 3) (δ₂ : GName) → ent 𝓤 (emp 𝓤) ((c κs (seen b₀ o₀ ys₀, (seen b₁ o₁ ys₁, (ref b₂ o₂ δ₂ ys₂, a κs)))).requires (g κs δ₂)))
      → (ψ : Q.Denot → List R₂.Denot → Type 0) → ((κs : Lfts 3) (δ₂ : GName) (r : Q.Denot) (ws : Lasts (shr_shr_mut_ended R₀ R₁ R₂ Q ss ks) κs (seen b₀ o₀ ys₀, (seen b₁ o₁ ys₁, (ref b₂ o₂ δ₂ ys₂, a κs)))) → ent 𝓤 ((c κs (seen b₀ o₀ ys₀, (seen b₁ o₁ ys₁, (ref b₂ o₂ δ₂ ys₂, a κs)))).ensures (g κs δ₂) r (at_exit (shr_shr_mut_ended R₀ R₁ R₂ Q ss ks) κs (seen b₀ o₀ ys₀, (seen b₁ o₁ ys₁, (ref b₂ o₂ δ₂ ys₂, a κs))) ws)) (fact 𝓤 (ψ r ws.1.1.0)))
      → ((κs : Lfts 3) (δ₂ : GName) → Opds K 𝓛 (raw ((contract_of 𝓛 (shr_shr_mut_ended R₀ R₁ R₂ Q ss ks) c).pre ((κs, (q₀, (q₁, (full_share, tt))), tt, (seen b₀ o₀ ys₀, (seen b₁ o₁ ys₁, (ref b₂ o₂ δ₂ ys₂, a κs))), (slice_val (b₀, o₀) n₀ ∷ [], (slice_val (b₁, o₁) n₁ ∷ [], (slice_val (b₂, o₂) n₂ ∷ [], vss κs)))), g κs δ₂)) ∷ ‵ ftrue ∷ ‵ ftrue ∷ ‵ ((ShrSlice (named 0) κ₀ R₀).own_val (seen b₀ o₀ ys₀) (slice_val (b₀, o₀) n₀ ∷ [])) ∷ ‵ ((ShrSlice (named 0) κ₁ R₁).own_val (seen b₁ o₁ ys₁) (slice_val (b₁, o₁) n₁ ∷ [])) ∷ ‵ (LentAgain R₂ κ₂ κs.1.1.0 q₂ γ₂ b₂ o₂ δ₂ ys₂) ∷ Γ) E xs (slice_val (b₀, o₀) n₀ ∷ slice_val (b₁, o₁) n₁ ∷ slice_val (b₂, o₂) n₂ ∷ flat (types_at ss κs) (vss κs)))
      → ((u : Val) (r : Q.Denot) (zs₂ : List R₂.Denot) → length zs₂ ≡ n₂ → ψ r zs₂ → Is Q r (u ∷ []) → Seq K 𝓛 (‵ (flft κ₀ q₀) ∷ ‵ ((ShrSlice (named 0) κ₀ R₀).own_val (seen b₀ o₀ ys₀) (slice_val (b₀, o₀) n₀ ∷ [])) ∷ ‵ (flft κ₁ q₁) ∷ ‵ ((ShrSlice (named 0) κ₁ R₁).own_val (seen b₁ o₁ ys₁) (slice_val (b₁, o₁) n₁ ∷ [])) ∷ ‵ (flft κ₂ q₂) ∷ ‵ ((MutSlice (named 0) κ₂ R₂).own_val (ref b₂ o₂ γ₂ zs₂) (slice_val (b₂, o₂) n₂ ∷ [])) ∷ Γ) (lands C Λ E d u rest p))
      → Seq K 𝓛 (‵ (flft κ₀ q₀) ∷ ‵ ((ShrSlice (named 0) κ₀ R₀).own_val (seen b₀ o₀ ys₀) (slice_val (b₀, o₀) n₀ ∷ [])) ∷ ‵ (flft κ₁ q₁) ∷ ‵ ((ShrSlice (named 0) κ₁ R₁).own_val (seen b₁ o₁ ys₁) (slice_val (b₁, o₁) n₁ ∷ [])) ∷ ‵ (flft κ₂ q₂) ∷ ‵ ((MutSlice (named 0) κ₂ R₂).own_val (ref b₂ o₂ γ₂ ys₂) (slice_val (b₂, o₂) n₂ ∷ [])) ∷ Γ) (runs C Λ E (seq (call f xs d) rest) p)
  calls_shr_shr_mut t fm R₀ R₁ R₂ Q ss ks c known {κ₀} {q₀} b₀ o₀ ys₀ n₀ en₀ laws₀ {κ₁} {q₁} b₁ o₁ ys₁ n₁ en₁ laws₁ {κ₂} {q₂} b₂ o₂ γ₂ ys₂ n₂ en₂ a vss own g req ψ ens os k =
      lend_shr t R₀ laws₀ (seen b₀ o₀ ys₀) (slice_val (b₀, o₀) n₀ ∷ []) (
      move t (3 ∷ 4 ∷ []) $ lend_shr t R₁ laws₁ (seen b₁ o₁ ys₁) (slice_val (b₁, o₁) n₁ ∷ []) (
      move t (6 ∷ 7 ∷ []) $ lend_mut t tt R₂ b₂ o₂ γ₂ ys₂ n₂ en₂ (λ ν₂ δ₂ room₂.
      move t (1 ∷ 4 ∷ 7 ∷ 0 ∷ 3 ∷ 6 ∷ []) $ move t (1 ∷ 0 ∷ []) $ fjoin t $ move t (1 ∷ 0 ∷ []) $ fjoin t $ move t (1 ∷ 0 ∷ []) $ fjoin t $ move t (1 ∷ 0 ∷ []) $ fjoin t $ move t (1 ∷ 0 ∷ []) $ fjoin t $ use1 𝓛 (raw (pre (κ₀, (κ₁, (ν₂ ∷ [], tt))) δ₂)) (goes (κ₀, (κ₁, (ν₂ ∷ [], tt))) δ₂) $ nothing t $ nothing t $ move t (2 ∷ 1 ∷ 0 ∷ 5 ∷ 4 ∷ 3 ∷ []) $
      calls_at t fm (contract_of 𝓛 (shr_shr_mut_ended R₀ R₁ R₂ Q ss ks) c) known (y (κ₀, (κ₁, (ν₂ ∷ [], tt))) δ₂) (os (κ₀, (κ₁, (ν₂ ∷ [], tt))) δ₂) (λ u.
      use1 𝓛 (later (some (λ (r : Q.Denot). ((‵ (flft κ₀ q₀) ⊛ (‵ (flft κ₁ q₁) ⊛ (‵ (flft (ν₂ ∷ []) full_share) ⊛ ‵ ftrue))) ⊛ ‵ (Q.own_val r (u ∷ []))) ⊛ raw (ensured 𝓛 (shr_shr_mut_ended R₀ R₁ R₂ Q ss ks) c (κ₀, (κ₁, (ν₂ ∷ [], tt))) (args (κ₀, (κ₁, (ν₂ ∷ [], tt))) δ₂) (g (κ₀, (κ₁, (ν₂ ∷ [], tt))) δ₂) r)))) (id⊢ 𝓤 _) $ await t tt $ pick t (λ r. split t $ move t (1 ∷ []) $
      use1 𝓛 (some (λ (ws : Lasts (shr_shr_mut_ended R₀ R₁ R₂ Q ss ks) (κ₀, (κ₁, (ν₂ ∷ [], tt))) (args (κ₀, (κ₁, (ν₂ ∷ [], tt))) δ₂)). ‵ (lasts (shr_shr_mut_ended R₀ R₁ R₂ Q ss ks) (κ₀, (κ₁, (ν₂ ∷ [], tt))) (args (κ₀, (κ₁, (ν₂ ∷ [], tt))) δ₂) ws) ⊛ raw ((c (κ₀, (κ₁, (ν₂ ∷ [], tt))) (args (κ₀, (κ₁, (ν₂ ∷ [], tt))) δ₂)).ensures (g (κ₀, (κ₁, (ν₂ ∷ [], tt))) δ₂) r (at_exit (shr_shr_mut_ended R₀ R₁ R₂ Q ss ks) (κ₀, (κ₁, (ν₂ ∷ [], tt))) (args (κ₀, (κ₁, (ν₂ ∷ [], tt))) δ₂) ws)))) (id⊢ 𝓤 _) $ pick t (λ ws. split t $ move t (1 ∷ []) $
      use1 𝓛 (raw (fact 𝓤 (ψ r ws.1.1.0))) (ens (κ₀, (κ₁, (ν₂ ∷ [], tt))) δ₂ r ws) $ heard t (ψ r ws.1.1.0) (λ e.
      fsplit t $ drop t $ fsplit t $ drop t $ fsplit t $ fsplit t $ fsplit t $ move t (1 ∷ []) $ feq_l t (λ l₂. move t (1 ∷ []) $ drop t $ move t (1 ∷ []) $ drop t $ move t (1 ∷ []) $ split t $ move t (1 ∷ []) $ peeks t Q (Is Q) (shows 𝓛 Q) r (u ∷ []) (λ is. drop t $ split t $ move t (1 ∷ []) $ split t $ move t (1 ∷ []) $ split t $ move t (1 ∷ []) $ drop t $
      move t (0 ∷ 8 ∷ 3 ∷ []) $ back_mut t tt R₂ b₂ o₂ γ₂ ys₂ n₂ en₂ ν₂ δ₂ room₂ ws.1.1.0 l₂ (move t (4 ∷ []) $ drop t $ move t (4 ∷ []) $ drop t $ move t (3 ∷ 4 ∷ 2 ∷ 5 ∷ 0 ∷ 1 ∷ []) $ k u r ws.1.1.0 (l₂ ∙ en₂) e is))))))))))
    where
      args : (κs : Lfts 3) (δ₂ : GName) → Args (shr_shr_mut_ended R₀ R₁ R₂ Q ss ks).signature κs
      args κs δ₂ = (seen b₀ o₀ ys₀, (seen b₁ o₁ ys₁, (ref b₂ o₂ δ₂ ys₂, a κs)))

      y : (κs : Lfts 3) (δ₂ : GName) → (contract_of 𝓛 (shr_shr_mut_ended R₀ R₁ R₂ Q ss ks) c).Ghost
      y κs δ₂ = ((κs, (q₀, (q₁, (full_share, tt))), tt, (seen b₀ o₀ ys₀, (seen b₁ o₁ ys₁, (ref b₂ o₂ δ₂ ys₂, a κs))), (slice_val (b₀, o₀) n₀ ∷ [], (slice_val (b₁, o₁) n₁ ∷ [], (slice_val (b₂, o₂) n₂ ∷ [], vss κs)))), g κs δ₂)

      pre : (κs : Lfts 3) (δ₂ : GName) → SProp 𝓤
      pre κs δ₂ = (contract_of 𝓛 (shr_shr_mut_ended R₀ R₁ R₂ Q ss ks) c).pre (y κs δ₂)

      goes : (κs : Lfts 3) (δ₂ : GName) → ent 𝓤 (sem 𝓛 (fsep (flft κs.0 q₀) (fsep (flft κs.1.0 q₁) (fsep (flft κs.1.1.0 full_share) (fsep ((ShrSlice (named 0) κs.0 R₀).own_val (seen b₀ o₀ ys₀) (slice_val (b₀, o₀) n₀ ∷ [])) (fsep ((ShrSlice (named 0) κs.1.0 R₁).own_val (seen b₁ o₁ ys₁) (slice_val (b₁, o₁) n₁ ∷ [])) ((MutSlice (named 0) κs.1.1.0 R₂).own_val (ref b₂ o₂ δ₂ ys₂) (slice_val (b₂, o₂) n₂ ∷ [])))))))) (pre κs δ₂)
      goes κs δ₂ =
          qed 𝓛 (‵ (fsep (flft κs.0 q₀) (fsep (flft κs.1.0 q₁) (fsep (flft κs.1.1.0 full_share) (fsep ((ShrSlice (named 0) κs.0 R₀).own_val (seen b₀ o₀ ys₀) (slice_val (b₀, o₀) n₀ ∷ [])) (fsep ((ShrSlice (named 0) κs.1.0 R₁).own_val (seen b₁ o₁ ys₁) (slice_val (b₁, o₁) n₁ ∷ [])) ((MutSlice (named 0) κs.1.1.0 R₂).own_val (ref b₂ o₂ δ₂ ys₂) (slice_val (b₂, o₂) n₂ ∷ []))))))) ∷ []) ∵ fsplit ! $ move ! (1 ∷ []) $ fsplit ! $ move ! (1 ∷ []) $ fsplit ! $ move ! (1 ∷ []) $ fsplit ! $ move ! (1 ∷ []) $ fsplit ! $
          use0 𝓛 (raw ((c κs (seen b₀ o₀ ys₀, (seen b₁ o₁ ys₁, (ref b₂ o₂ δ₂ ys₂, a κs)))).requires (g κs δ₂))) (req κs δ₂) $ use0 𝓛 (‵ (owns (types_at ss κs) (a κs) (vss κs))) (own κs) $ move ! (3 ∷ 0 ∷ []) $ fjoin ! $ move ! (2 ∷ 0 ∷ []) $ fjoin ! $ move ! (2 ∷ 0 ∷ []) $ fjoin ! $ nothing ! $ move ! (3 ∷ 0 ∷ []) $ join ! $ move ! (3 ∷ 0 ∷ []) $ join ! $ move ! (3 ∷ 0 ∷ []) $ join ! $ join ! $ frame ! $ done !

  pub calls_view_view_mut_mut : K → FmC 𝓤 H 𝓛.laws C → (R₀ R₁ R₂ R₃ Q : RattleType) (ss : List (Slot 4)) (ks : Kepts ss) (c : Clauses 𝓤 (shr_shr_mut_mut_ended R₀ R₁ R₂ R₃ Q ss ks)) → Triple 𝓤 (C f) (contract_of 𝓛 (shr_shr_mut_mut_ended R₀ R₁ R₂ R₃ Q ss ks) c)
      → {κ₀ : Lft} {q₀ : Share} (b₀ o₀ : ℕ) (γ₀ : GName) (ys₀ : List R₀.Denot) (n₀ : ℕ) → length ys₀ ≡ n₀ → Shares 𝓛 R₀ R₀.lives → Incl κ₀ R₀.lives
      → {κ₁ : Lft} {q₁ : Share} (b₁ o₁ : ℕ) (γ₁ : GName) (ys₁ : List R₁.Denot) (n₁ : ℕ) → length ys₁ ≡ n₁ → Shares 𝓛 R₁ R₁.lives → Incl κ₁ R₁.lives
      → {κ₂ : Lft} {q₂ : Share} (b₂ o₂ : ℕ) (γ₂ : GName) (ys₂ : List R₂.Denot) (n₂ : ℕ) → length ys₂ ≡ n₂
      → {κ₃ : Lft} {q₃ : Share} (b₃ o₃ : ℕ) (γ₃ : GName) (ys₃ : List R₃.Denot) (n₃ : ℕ) → length ys₃ ≡ n₃
      → (a : (κs : Lfts 4) → Denots (types_at ss κs)) (vss : (κs : Lfts 4) → Valss (types_at ss κs)) → ((κs : Lfts 4) → ent 𝓤 (emp 𝓤) (sem 𝓛 (owns (types_at ss κs) (a κs) (vss κs))))
      → (g : (κs : Lfts 4) (δ₂ δ₃ : GName) → (c κs (seen b₀ o₀ ys₀, (seen b₁ o₁ ys₁, (ref b₂ o₂ δ₂ ys₂, (ref b₃ o₃ δ₃ ys₃, a κs))))).ghost) → ((κs : Lfts 4) (δ₂ δ₃ : GName) → ent 𝓤 (emp 𝓤) ((c κs (seen b₀ o₀ ys₀, (seen b₁ o₁ ys₁, (ref b₂ o₂ δ₂ ys₂, (ref b₃ o₃ δ₃ ys₃, a κs))))).requires (g κs δ₂ δ₃)))
      → (ψ : Q.Denot → List R₂.Denot → List R₃.Denot → Type 0) → ((κs : Lfts 4) (δ₂ δ₃ : GName) (r : Q.Denot) (ws : Lasts (shr_shr_mut_mut_ended R₀ R₁ R₂ R₃ Q ss ks) κs (seen b₀ o₀ ys₀, (seen b₁ o₁ ys₁, (ref b₂ o₂ δ₂ ys₂, (ref b₃ o₃ δ₃ ys₃, a κs))))) → ent 𝓤 ((c κs (seen b₀ o₀ ys₀, (seen b₁ o₁ ys₁, (ref b₂ o₂ δ₂ ys₂, (ref b₃ o₃ δ₃ ys₃, a κs))))).ensures (g κs δ₂ δ₃) r (at_exit (shr_shr_mut_mut_ended R₀ R₁ R₂ R₃ Q ss ks) κs (seen b₀ o₀ ys₀, (seen b₁ o₁ ys₁, (ref b₂ o₂ δ₂ ys₂, (ref b₃ o₃ δ₃ ys₃, a κs)))) ws)) (fact 𝓤 (ψ r ws.1.1.0 ws.1.1.1.0)))
      → ((κs : Lfts 4) (δ₂ δ₃ : GName) → Opds K 𝓛 (raw ((contract_of 𝓛 (shr_shr_mut_mut_ended R₀ R₁ R₂ R₃ Q ss ks) c).pre ((κs, (full_share, (full_share, (full_share, (full_share, tt)))), tt, (seen b₀ o₀ ys₀, (seen b₁ o₁ ys₁, (ref b₂ o₂ δ₂ ys₂, (ref b₃ o₃ δ₃ ys₃, a κs)))), (slice_val (b₀, o₀) n₀ ∷ [], (slice_val (b₁, o₁) n₁ ∷ [], (slice_val (b₂, o₂) n₂ ∷ [], (slice_val (b₃, o₃) n₃ ∷ [], vss κs))))), g κs δ₂ δ₃)) ∷ ‵ ftrue ∷ ‵ ftrue ∷ ‵ ftrue ∷ ‵ (Viewed R₀ κ₀ κs.0 q₀ γ₀ b₀ o₀ ys₀) ∷ ‵ (Viewed R₁ κ₁ κs.1.0 q₁ γ₁ b₁ o₁ ys₁) ∷ ‵ (LentAgain R₂ κ₂ κs.1.1.0 q₂ γ₂ b₂ o₂ δ₂ ys₂) ∷ ‵ (LentAgain R₃ κ₃ κs.1.1.1.0 q₃ γ₃ b₃ o₃ δ₃ ys₃) ∷ Γ) E xs (slice_val (b₀, o₀) n₀ ∷ slice_val (b₁, o₁) n₁ ∷ slice_val (b₂, o₂) n₂ ∷ slice_val (b₃, o₃) n₃ ∷ flat (types_at ss κs) (vss κs)))
      → ((u : Val) (r : Q.Denot) (zs₂ : List R₂.Denot) (zs₃ : List R₃.Denot) → length zs₂ ≡ n₂ → length zs₃ ≡ n₃ → ψ r zs₂ zs₃ → Is Q r (u ∷ []) → Seq K 𝓛 (‵ (flft κ₀ q₀) ∷ ‵ ((MutSlice (named 0) κ₀ R₀).own_val (ref b₀ o₀ γ₀ ys₀) (slice_val (b₀, o₀) n₀ ∷ [])) ∷ ‵ (flft κ₁ q₁) ∷ ‵ ((MutSlice (named 0) κ₁ R₁).own_val (ref b₁ o₁ γ₁ ys₁) (slice_val (b₁, o₁) n₁ ∷ [])) ∷ ‵ (flft κ₂ q₂) ∷ ‵ ((MutSlice (named 0) κ₂ R₂).own_val (ref b₂ o₂ γ₂ zs₂) (slice_val (b₂, o₂) n₂ ∷ [])) ∷ ‵ (flft κ₃ q₃) ∷ ‵ ((MutSlice (named 0) κ₃ R₃).own_val (ref b₃ o₃ γ₃ zs₃) (slice_val (b₃, o₃) n₃ ∷ [])) ∷ Γ) (lands C Λ E d u rest p))
      → Seq K 𝓛 (‵ (flft κ₀ q₀) ∷ ‵ ((MutSlice (named 0) κ₀ R₀).own_val (ref b₀ o₀ γ₀ ys₀) (slice_val (b₀, o₀) n₀ ∷ [])) ∷ ‵ (flft κ₁ q₁) ∷ ‵ ((MutSlice (named 0) κ₁ R₁).own_val (ref b₁ o₁ γ₁ ys₁) (slice_val (b₁, o₁) n₁ ∷ [])) ∷ ‵ (flft κ₂ q₂) ∷ ‵ ((MutSlice (named 0) κ₂ R₂).own_val (ref b₂ o₂ γ₂ ys₂) (slice_val (b₂, o₂) n₂ ∷ [])) ∷ ‵ (flft κ₃ q₃) ∷ ‵ ((MutSlice (named 0) κ₃ R₃).own_val (ref b₃ o₃ γ₃ ys₃) (slice_val (b₃, o₃) n₃ ∷ [])) ∷ Γ) (runs C Λ E (seq (call f xs d) rest) p)
  calls_view_view_mut_mut t fm R₀ R₁ R₂ R₃ Q ss ks c known {κ₀} {q₀} b₀ o₀ γ₀ ys₀ n₀ en₀ shares₀ within₀ {κ₁} {q₁} b₁ o₁ γ₁ ys₁ n₁ en₁ shares₁ within₁ {κ₂} {q₂} b₂ o₂ γ₂ ys₂ n₂ en₂ {κ₃} {q₃} b₃ o₃ γ₃ ys₃ n₃ en₃ a vss own g req ψ ens os k =
      lend_view t tt R₀ b₀ o₀ γ₀ ys₀ n₀ en₀ shares₀ within₀ (λ ν₀ room₀.
      move t (3 ∷ 4 ∷ []) $ lend_view t tt R₁ b₁ o₁ γ₁ ys₁ n₁ en₁ shares₁ within₁ (λ ν₁ room₁.
      move t (6 ∷ 7 ∷ []) $ lend_mut t tt R₂ b₂ o₂ γ₂ ys₂ n₂ en₂ (λ ν₂ δ₂ room₂.
      move t (9 ∷ 10 ∷ []) $ lend_mut t tt R₃ b₃ o₃ γ₃ ys₃ n₃ en₃ (λ ν₃ δ₃ room₃.
      move t (1 ∷ 4 ∷ 7 ∷ 10 ∷ 0 ∷ 3 ∷ 6 ∷ 9 ∷ []) $ move t (1 ∷ 0 ∷ []) $ fjoin t $ move t (1 ∷ 0 ∷ []) $ fjoin t $ move t (1 ∷ 0 ∷ []) $ fjoin t $ move t (1 ∷ 0 ∷ []) $ fjoin t $ move t (1 ∷ 0 ∷ []) $ fjoin t $ move t (1 ∷ 0 ∷ []) $ fjoin t $ move t (1 ∷ 0 ∷ []) $ fjoin t $ use1 𝓛 (raw (pre (ν₀ ∷ [], (ν₁ ∷ [], (ν₂ ∷ [], (ν₃ ∷ [], tt)))) δ₂ δ₃)) (goes (ν₀ ∷ [], (ν₁ ∷ [], (ν₂ ∷ [], (ν₃ ∷ [], tt)))) δ₂ δ₃) $ nothing t $ nothing t $ nothing t $ move t (3 ∷ 2 ∷ 1 ∷ 0 ∷ 7 ∷ 6 ∷ 5 ∷ 4 ∷ []) $
      calls_at t fm (contract_of 𝓛 (shr_shr_mut_mut_ended R₀ R₁ R₂ R₃ Q ss ks) c) known (y (ν₀ ∷ [], (ν₁ ∷ [], (ν₂ ∷ [], (ν₃ ∷ [], tt)))) δ₂ δ₃) (os (ν₀ ∷ [], (ν₁ ∷ [], (ν₂ ∷ [], (ν₃ ∷ [], tt)))) δ₂ δ₃) (λ u.
      use1 𝓛 (later (some (λ (r : Q.Denot). ((‵ (flft (ν₀ ∷ []) full_share) ⊛ (‵ (flft (ν₁ ∷ []) full_share) ⊛ (‵ (flft (ν₂ ∷ []) full_share) ⊛ (‵ (flft (ν₃ ∷ []) full_share) ⊛ ‵ ftrue)))) ⊛ ‵ (Q.own_val r (u ∷ []))) ⊛ raw (ensured 𝓛 (shr_shr_mut_mut_ended R₀ R₁ R₂ R₃ Q ss ks) c (ν₀ ∷ [], (ν₁ ∷ [], (ν₂ ∷ [], (ν₃ ∷ [], tt)))) (args (ν₀ ∷ [], (ν₁ ∷ [], (ν₂ ∷ [], (ν₃ ∷ [], tt)))) δ₂ δ₃) (g (ν₀ ∷ [], (ν₁ ∷ [], (ν₂ ∷ [], (ν₃ ∷ [], tt)))) δ₂ δ₃) r)))) (id⊢ 𝓤 _) $ await t tt $ pick t (λ r. split t $ move t (1 ∷ []) $
      use1 𝓛 (some (λ (ws : Lasts (shr_shr_mut_mut_ended R₀ R₁ R₂ R₃ Q ss ks) (ν₀ ∷ [], (ν₁ ∷ [], (ν₂ ∷ [], (ν₃ ∷ [], tt)))) (args (ν₀ ∷ [], (ν₁ ∷ [], (ν₂ ∷ [], (ν₃ ∷ [], tt)))) δ₂ δ₃)). ‵ (lasts (shr_shr_mut_mut_ended R₀ R₁ R₂ R₃ Q ss ks) (ν₀ ∷ [], (ν₁ ∷ [], (ν₂ ∷ [], (ν₃ ∷ [], tt)))) (args (ν₀ ∷ [], (ν₁ ∷ [], (ν₂ ∷ [], (ν₃ ∷ [], tt)))) δ₂ δ₃) ws) ⊛ raw ((c (ν₀ ∷ [], (ν₁ ∷ [], (ν₂ ∷ [], (ν₃ ∷ [], tt)))) (args (ν₀ ∷ [], (ν₁ ∷ [], (ν₂ ∷ [], (ν₃ ∷ [], tt)))) δ₂ δ₃)).ensures (g (ν₀ ∷ [], (ν₁ ∷ [], (ν₂ ∷ [], (ν₃ ∷ [], tt)))) δ₂ δ₃) r (at_exit (shr_shr_mut_mut_ended R₀ R₁ R₂ R₃ Q ss ks) (ν₀ ∷ [], (ν₁ ∷ [], (ν₂ ∷ [], (ν₃ ∷ [], tt)))) (args (ν₀ ∷ [], (ν₁ ∷ [], (ν₂ ∷ [], (ν₃ ∷ [], tt)))) δ₂ δ₃) ws)))) (id⊢ 𝓤 _) $ pick t (λ ws. split t $ move t (1 ∷ []) $
      use1 𝓛 (raw (fact 𝓤 (ψ r ws.1.1.0 ws.1.1.1.0))) (ens (ν₀ ∷ [], (ν₁ ∷ [], (ν₂ ∷ [], (ν₃ ∷ [], tt)))) δ₂ δ₃ r ws) $ heard t (ψ r ws.1.1.0 ws.1.1.1.0) (λ e.
      fsplit t $ drop t $ fsplit t $ drop t $ fsplit t $ fsplit t $ fsplit t $ move t (1 ∷ []) $ feq_l t (λ l₂. move t (1 ∷ []) $ drop t $ move t (1 ∷ []) $ fsplit t $ fsplit t $ fsplit t $ move t (1 ∷ []) $ feq_l t (λ l₃. move t (1 ∷ []) $ drop t $ move t (1 ∷ []) $ drop t $ move t (2 ∷ []) $ split t $ move t (1 ∷ []) $ peeks t Q (Is Q) (shows 𝓛 Q) r (u ∷ []) (λ is. drop t $ split t $ move t (1 ∷ []) $ split t $ move t (1 ∷ []) $ split t $ move t (1 ∷ []) $ split t $ move t (1 ∷ []) $ drop t $
      move t (3 ∷ 9 ∷ []) $ back_view t tt R₀ b₀ o₀ γ₀ ys₀ n₀ en₀ ν₀ room₀ (move t (4 ∷ 10 ∷ []) $ back_view t tt R₁ b₁ o₁ γ₁ ys₁ n₁ en₁ ν₁ room₁ (move t (5 ∷ 11 ∷ 7 ∷ []) $ back_mut t tt R₂ b₂ o₂ γ₂ ys₂ n₂ en₂ ν₂ δ₂ room₂ ws.1.1.0 l₂ (move t (6 ∷ 11 ∷ 7 ∷ []) $ back_mut t tt R₃ b₃ o₃ γ₃ ys₃ n₃ en₃ ν₃ δ₃ room₃ ws.1.1.1.0 l₃ (move t (8 ∷ []) $ drop t $ move t (8 ∷ []) $ drop t $ move t (8 ∷ []) $ drop t $ move t (6 ∷ 7 ∷ 4 ∷ 5 ∷ 2 ∷ 3 ∷ 0 ∷ 1 ∷ []) $ k u r ws.1.1.0 ws.1.1.1.0 (l₂ ∙ en₂) (l₃ ∙ en₃) e is)))))))))))))))
    where
      args : (κs : Lfts 4) (δ₂ δ₃ : GName) → Args (shr_shr_mut_mut_ended R₀ R₁ R₂ R₃ Q ss ks).signature κs
      args κs δ₂ δ₃ = (seen b₀ o₀ ys₀, (seen b₁ o₁ ys₁, (ref b₂ o₂ δ₂ ys₂, (ref b₃ o₃ δ₃ ys₃, a κs))))

      y : (κs : Lfts 4) (δ₂ δ₃ : GName) → (contract_of 𝓛 (shr_shr_mut_mut_ended R₀ R₁ R₂ R₃ Q ss ks) c).Ghost
      y κs δ₂ δ₃ = ((κs, (full_share, (full_share, (full_share, (full_share, tt)))), tt, (seen b₀ o₀ ys₀, (seen b₁ o₁ ys₁, (ref b₂ o₂ δ₂ ys₂, (ref b₃ o₃ δ₃ ys₃, a κs)))), (slice_val (b₀, o₀) n₀ ∷ [], (slice_val (b₁, o₁) n₁ ∷ [], (slice_val (b₂, o₂) n₂ ∷ [], (slice_val (b₃, o₃) n₃ ∷ [], vss κs))))), g κs δ₂ δ₃)

      pre : (κs : Lfts 4) (δ₂ δ₃ : GName) → SProp 𝓤
      pre κs δ₂ δ₃ = (contract_of 𝓛 (shr_shr_mut_mut_ended R₀ R₁ R₂ R₃ Q ss ks) c).pre (y κs δ₂ δ₃)

      goes : (κs : Lfts 4) (δ₂ δ₃ : GName) → ent 𝓤 (sem 𝓛 (fsep (flft κs.0 full_share) (fsep (flft κs.1.0 full_share) (fsep (flft κs.1.1.0 full_share) (fsep (flft κs.1.1.1.0 full_share) (fsep ((ShrSlice (named 0) κs.0 R₀).own_val (seen b₀ o₀ ys₀) (slice_val (b₀, o₀) n₀ ∷ [])) (fsep ((ShrSlice (named 0) κs.1.0 R₁).own_val (seen b₁ o₁ ys₁) (slice_val (b₁, o₁) n₁ ∷ [])) (fsep ((MutSlice (named 0) κs.1.1.0 R₂).own_val (ref b₂ o₂ δ₂ ys₂) (slice_val (b₂, o₂) n₂ ∷ [])) ((MutSlice (named 0) κs.1.1.1.0 R₃).own_val (ref b₃ o₃ δ₃ ys₃) (slice_val (b₃, o₃) n₃ ∷ [])))))))))) (pre κs δ₂ δ₃)
      goes κs δ₂ δ₃ =
          qed 𝓛 (‵ (fsep (flft κs.0 full_share) (fsep (flft κs.1.0 full_share) (fsep (flft κs.1.1.0 full_share) (fsep (flft κs.1.1.1.0 full_share) (fsep ((ShrSlice (named 0) κs.0 R₀).own_val (seen b₀ o₀ ys₀) (slice_val (b₀, o₀) n₀ ∷ [])) (fsep ((ShrSlice (named 0) κs.1.0 R₁).own_val (seen b₁ o₁ ys₁) (slice_val (b₁, o₁) n₁ ∷ [])) (fsep ((MutSlice (named 0) κs.1.1.0 R₂).own_val (ref b₂ o₂ δ₂ ys₂) (slice_val (b₂, o₂) n₂ ∷ [])) ((MutSlice (named 0) κs.1.1.1.0 R₃).own_val (ref b₃ o₃ δ₃ ys₃) (slice_val (b₃, o₃) n₃ ∷ []))))))))) ∷ []) ∵ fsplit ! $ move ! (1 ∷ []) $ fsplit ! $ move ! (1 ∷ []) $ fsplit ! $ move ! (1 ∷ []) $ fsplit ! $ move ! (1 ∷ []) $ fsplit ! $ move ! (1 ∷ []) $ fsplit ! $ move ! (1 ∷ []) $ fsplit ! $
          use0 𝓛 (raw ((c κs (seen b₀ o₀ ys₀, (seen b₁ o₁ ys₁, (ref b₂ o₂ δ₂ ys₂, (ref b₃ o₃ δ₃ ys₃, a κs))))).requires (g κs δ₂ δ₃))) (req κs δ₂ δ₃) $ use0 𝓛 (‵ (owns (types_at ss κs) (a κs) (vss κs))) (own κs) $ move ! (3 ∷ 0 ∷ []) $ fjoin ! $ move ! (2 ∷ 0 ∷ []) $ fjoin ! $ move ! (2 ∷ 0 ∷ []) $ fjoin ! $ move ! (2 ∷ 0 ∷ []) $ fjoin ! $ nothing ! $ move ! (3 ∷ 0 ∷ []) $ join ! $ move ! (3 ∷ 0 ∷ []) $ join ! $ move ! (3 ∷ 0 ∷ []) $ join ! $ move ! (3 ∷ 0 ∷ []) $ join ! $ join ! $ frame ! $ done !

module _ {M : Type 1} {𝓤 : Ura M} {𝓛 : Logic 𝓤} {K : Type 0} {Γ : List (Item 𝓤)} {E : Env 𝓤 𝓛.H} {C : Calls 𝓤 𝓛.H} {f : Callee} {xs : List Operand} {Λ : Loops 𝓤 𝓛.H} {p : Post 𝓤 𝓛.H} {d : Place} where
  open 𝓛 use {H}

  pub calls_plain_last : K → FmC 𝓤 H 𝓛.laws C → (Q : RattleType) (ss : List (Slot 0)) (ks : Kepts ss) (c : Clauses 𝓤 (plain_ended Q ss ks)) → Triple 𝓤 (C f) (contract_of 𝓛 (plain_ended Q ss ks) c)
      → (a : (κs : Lfts 0) → Denots (types_at ss κs)) (vss : (κs : Lfts 0) → Valss (types_at ss κs)) → ((κs : Lfts 0) → ent 𝓤 (emp 𝓤) (sem 𝓛 (owns (types_at ss κs) (a κs) (vss κs))))
      → (g : (κs : Lfts 0) → (c κs (a κs)).ghost) → ((κs : Lfts 0) → ent 𝓤 (emp 𝓤) ((c κs (a κs)).requires (g κs)))
      → (ψ : Q.Denot → Type 0) → ((κs : Lfts 0) (r : Q.Denot) (ws : Lasts (plain_ended Q ss ks) κs (a κs)) → ent 𝓤 ((c κs (a κs)).ensures (g κs) r (at_exit (plain_ended Q ss ks) κs (a κs) ws)) (fact 𝓤 (ψ r)))
      → ((κs : Lfts 0) → Opds K 𝓛 (raw ((contract_of 𝓛 (plain_ended Q ss ks) c).pre ((κs, tt, tt, (a κs), (vss κs)), g κs)) ∷ Γ) E xs (flat (types_at ss κs) (vss κs)))
      → ((u : Val) (r : Q.Denot) → ψ r → Is Q r (u ∷ []) → Seq K 𝓛 Γ (settles E d u p))
      → Seq K 𝓛 Γ (runs C Λ E (call f xs d) p)
  calls_plain_last t fm Q ss ks c known a vss own g req ψ ens os k =
      use0 𝓛 (raw (pre tt)) (goes tt) $
      calls_at_last t fm (contract_of 𝓛 (plain_ended Q ss ks) c) known (y tt) (os tt) (λ u.
      use1 𝓛 (later (some (λ (r : Q.Denot). (‵ ftrue ⊛ ‵ (Q.own_val r (u ∷ []))) ⊛ raw (ensured 𝓛 (plain_ended Q ss ks) c tt (args tt) (g tt) r)))) (id⊢ 𝓤 _) $ await t tt $ pick t (λ r. split t $ move t (1 ∷ []) $
      use1 𝓛 (some (λ (ws : Lasts (plain_ended Q ss ks) tt (args tt)). ‵ (lasts (plain_ended Q ss ks) tt (args tt) ws) ⊛ raw ((c tt (args tt)).ensures (g tt) r (at_exit (plain_ended Q ss ks) tt (args tt) ws)))) (id⊢ 𝓤 _) $ pick t (λ ws. split t $ move t (1 ∷ []) $
      use1 𝓛 (raw (fact 𝓤 (ψ r))) (ens tt r ws) $ heard t (ψ r) (λ e.
      drop t $ split t $ move t (1 ∷ []) $ peeks t Q (Is Q) (shows 𝓛 Q) r (u ∷ []) (λ is. drop t $ drop t $
      k u r e is)))))
    where
      args : (κs : Lfts 0) → Args (plain_ended Q ss ks).signature κs
      args κs = (a κs)

      y : (κs : Lfts 0) → (contract_of 𝓛 (plain_ended Q ss ks) c).Ghost
      y κs = ((κs, tt, tt, (a κs), (vss κs)), g κs)

      pre : (κs : Lfts 0) → SProp 𝓤
      pre κs = (contract_of 𝓛 (plain_ended Q ss ks) c).pre (y κs)

      goes : (κs : Lfts 0) → ent 𝓤 (emp 𝓤) (pre κs)
      goes κs =
          qed 𝓛 [] ∵
          use0 𝓛 (raw ((c κs (a κs)).requires (g κs))) (req κs) $ use0 𝓛 (‵ (owns (types_at ss κs) (a κs) (vss κs))) (own κs) $ nothing ! $ join ! $ frame ! $ done !

  pub calls_mut_last : K → FmC 𝓤 H 𝓛.laws C → (R₀ Q : RattleType) (ss : List (Slot 1)) (ks : Kepts ss) (c : Clauses 𝓤 (mut_ended R₀ Q ss ks)) → Triple 𝓤 (C f) (contract_of 𝓛 (mut_ended R₀ Q ss ks) c)
      → {κ₀ : Lft} {q₀ : Share} (b₀ o₀ : ℕ) (γ₀ : GName) (ys₀ : List R₀.Denot) (n₀ : ℕ) → length ys₀ ≡ n₀
      → (a : (κs : Lfts 1) → Denots (types_at ss κs)) (vss : (κs : Lfts 1) → Valss (types_at ss κs)) → ((κs : Lfts 1) → ent 𝓤 (emp 𝓤) (sem 𝓛 (owns (types_at ss κs) (a κs) (vss κs))))
      → (g : (κs : Lfts 1) (δ₀ : GName) → (c κs (ref b₀ o₀ δ₀ ys₀, a κs)).ghost) → ((κs : Lfts 1) (δ₀ : GName) → ent 𝓤 (emp 𝓤) ((c κs (ref b₀ o₀ δ₀ ys₀, a κs)).requires (g κs δ₀)))
      → (ψ : Q.Denot → List R₀.Denot → Type 0) → ((κs : Lfts 1) (δ₀ : GName) (r : Q.Denot) (ws : Lasts (mut_ended R₀ Q ss ks) κs (ref b₀ o₀ δ₀ ys₀, a κs)) → ent 𝓤 ((c κs (ref b₀ o₀ δ₀ ys₀, a κs)).ensures (g κs δ₀) r (at_exit (mut_ended R₀ Q ss ks) κs (ref b₀ o₀ δ₀ ys₀, a κs) ws)) (fact 𝓤 (ψ r ws.0)))
      → ((κs : Lfts 1) (δ₀ : GName) → Opds K 𝓛 (raw ((contract_of 𝓛 (mut_ended R₀ Q ss ks) c).pre ((κs, (full_share, tt), tt, (ref b₀ o₀ δ₀ ys₀, a κs), (slice_val (b₀, o₀) n₀ ∷ [], vss κs)), g κs δ₀)) ∷ ‵ (LentAgain R₀ κ₀ κs.0 q₀ γ₀ b₀ o₀ δ₀ ys₀) ∷ Γ) E xs (slice_val (b₀, o₀) n₀ ∷ flat (types_at ss κs) (vss κs)))
      → ((u : Val) (r : Q.Denot) (zs₀ : List R₀.Denot) → length zs₀ ≡ n₀ → ψ r zs₀ → Is Q r (u ∷ []) → Seq K 𝓛 (‵ (flft κ₀ q₀) ∷ ‵ ((MutSlice (named 0) κ₀ R₀).own_val (ref b₀ o₀ γ₀ zs₀) (slice_val (b₀, o₀) n₀ ∷ [])) ∷ Γ) (settles E d u p))
      → Seq K 𝓛 (‵ (flft κ₀ q₀) ∷ ‵ ((MutSlice (named 0) κ₀ R₀).own_val (ref b₀ o₀ γ₀ ys₀) (slice_val (b₀, o₀) n₀ ∷ [])) ∷ Γ) (runs C Λ E (call f xs d) p)
  calls_mut_last t fm R₀ Q ss ks c known {κ₀} {q₀} b₀ o₀ γ₀ ys₀ n₀ en₀ a vss own g req ψ ens os k =
      lend_mut t tt R₀ b₀ o₀ γ₀ ys₀ n₀ en₀ (λ ν₀ δ₀ room₀.
      move t (1 ∷ 0 ∷ []) $ move t (1 ∷ 0 ∷ []) $ fjoin t $ use1 𝓛 (raw (pre (ν₀ ∷ [], tt) δ₀)) (goes (ν₀ ∷ [], tt) δ₀) $
      calls_at_last t fm (contract_of 𝓛 (mut_ended R₀ Q ss ks) c) known (y (ν₀ ∷ [], tt) δ₀) (os (ν₀ ∷ [], tt) δ₀) (λ u.
      use1 𝓛 (later (some (λ (r : Q.Denot). ((‵ (flft (ν₀ ∷ []) full_share) ⊛ ‵ ftrue) ⊛ ‵ (Q.own_val r (u ∷ []))) ⊛ raw (ensured 𝓛 (mut_ended R₀ Q ss ks) c (ν₀ ∷ [], tt) (args (ν₀ ∷ [], tt) δ₀) (g (ν₀ ∷ [], tt) δ₀) r)))) (id⊢ 𝓤 _) $ await t tt $ pick t (λ r. split t $ move t (1 ∷ []) $
      use1 𝓛 (some (λ (ws : Lasts (mut_ended R₀ Q ss ks) (ν₀ ∷ [], tt) (args (ν₀ ∷ [], tt) δ₀)). ‵ (lasts (mut_ended R₀ Q ss ks) (ν₀ ∷ [], tt) (args (ν₀ ∷ [], tt) δ₀) ws) ⊛ raw ((c (ν₀ ∷ [], tt) (args (ν₀ ∷ [], tt) δ₀)).ensures (g (ν₀ ∷ [], tt) δ₀) r (at_exit (mut_ended R₀ Q ss ks) (ν₀ ∷ [], tt) (args (ν₀ ∷ [], tt) δ₀) ws)))) (id⊢ 𝓤 _) $ pick t (λ ws. split t $ move t (1 ∷ []) $
      use1 𝓛 (raw (fact 𝓤 (ψ r ws.0))) (ens (ν₀ ∷ [], tt) δ₀ r ws) $ heard t (ψ r ws.0) (λ e.
      fsplit t $ fsplit t $ fsplit t $ move t (1 ∷ []) $ feq_l t (λ l₀. move t (1 ∷ []) $ drop t $ move t (1 ∷ []) $ drop t $ move t (1 ∷ []) $ split t $ move t (1 ∷ []) $ peeks t Q (Is Q) (shows 𝓛 Q) r (u ∷ []) (λ is. drop t $ split t $ move t (1 ∷ []) $ drop t $
      move t (0 ∷ 2 ∷ 1 ∷ []) $ back_mut t tt R₀ b₀ o₀ γ₀ ys₀ n₀ en₀ ν₀ δ₀ room₀ ws.0 l₀ (k u r ws.0 (l₀ ∙ en₀) e is))))))))
    where
      args : (κs : Lfts 1) (δ₀ : GName) → Args (mut_ended R₀ Q ss ks).signature κs
      args κs δ₀ = (ref b₀ o₀ δ₀ ys₀, a κs)

      y : (κs : Lfts 1) (δ₀ : GName) → (contract_of 𝓛 (mut_ended R₀ Q ss ks) c).Ghost
      y κs δ₀ = ((κs, (full_share, tt), tt, (ref b₀ o₀ δ₀ ys₀, a κs), (slice_val (b₀, o₀) n₀ ∷ [], vss κs)), g κs δ₀)

      pre : (κs : Lfts 1) (δ₀ : GName) → SProp 𝓤
      pre κs δ₀ = (contract_of 𝓛 (mut_ended R₀ Q ss ks) c).pre (y κs δ₀)

      goes : (κs : Lfts 1) (δ₀ : GName) → ent 𝓤 (sem 𝓛 (fsep (flft κs.0 full_share) ((MutSlice (named 0) κs.0 R₀).own_val (ref b₀ o₀ δ₀ ys₀) (slice_val (b₀, o₀) n₀ ∷ [])))) (pre κs δ₀)
      goes κs δ₀ =
          qed 𝓛 (‵ (fsep (flft κs.0 full_share) ((MutSlice (named 0) κs.0 R₀).own_val (ref b₀ o₀ δ₀ ys₀) (slice_val (b₀, o₀) n₀ ∷ []))) ∷ []) ∵ fsplit ! $
          use0 𝓛 (raw ((c κs (ref b₀ o₀ δ₀ ys₀, a κs)).requires (g κs δ₀))) (req κs δ₀) $ use0 𝓛 (‵ (owns (types_at ss κs) (a κs) (vss κs))) (own κs) $ move ! (3 ∷ 0 ∷ []) $ fjoin ! $ nothing ! $ move ! (3 ∷ 0 ∷ []) $ join ! $ join ! $ frame ! $ done !

  pub calls_view_last : K → FmC 𝓤 H 𝓛.laws C → (R₀ Q : RattleType) (ss : List (Slot 1)) (ks : Kepts ss) (c : Clauses 𝓤 (shr_ended R₀ Q ss ks)) → Triple 𝓤 (C f) (contract_of 𝓛 (shr_ended R₀ Q ss ks) c)
      → {κ₀ : Lft} {q₀ : Share} (b₀ o₀ : ℕ) (γ₀ : GName) (ys₀ : List R₀.Denot) (n₀ : ℕ) → length ys₀ ≡ n₀ → Shares 𝓛 R₀ R₀.lives → Incl κ₀ R₀.lives
      → (a : (κs : Lfts 1) → Denots (types_at ss κs)) (vss : (κs : Lfts 1) → Valss (types_at ss κs)) → ((κs : Lfts 1) → ent 𝓤 (emp 𝓤) (sem 𝓛 (owns (types_at ss κs) (a κs) (vss κs))))
      → (g : (κs : Lfts 1) → (c κs (seen b₀ o₀ ys₀, a κs)).ghost) → ((κs : Lfts 1) → ent 𝓤 (emp 𝓤) ((c κs (seen b₀ o₀ ys₀, a κs)).requires (g κs)))
      → (ψ : Q.Denot → Type 0) → ((κs : Lfts 1) (r : Q.Denot) (ws : Lasts (shr_ended R₀ Q ss ks) κs (seen b₀ o₀ ys₀, a κs)) → ent 𝓤 ((c κs (seen b₀ o₀ ys₀, a κs)).ensures (g κs) r (at_exit (shr_ended R₀ Q ss ks) κs (seen b₀ o₀ ys₀, a κs) ws)) (fact 𝓤 (ψ r)))
      → ((κs : Lfts 1) → Opds K 𝓛 (raw ((contract_of 𝓛 (shr_ended R₀ Q ss ks) c).pre ((κs, (full_share, tt), tt, (seen b₀ o₀ ys₀, a κs), (slice_val (b₀, o₀) n₀ ∷ [], vss κs)), g κs)) ∷ ‵ (Viewed R₀ κ₀ κs.0 q₀ γ₀ b₀ o₀ ys₀) ∷ Γ) E xs (slice_val (b₀, o₀) n₀ ∷ flat (types_at ss κs) (vss κs)))
      → ((u : Val) (r : Q.Denot) → ψ r → Is Q r (u ∷ []) → Seq K 𝓛 (‵ (flft κ₀ q₀) ∷ ‵ ((MutSlice (named 0) κ₀ R₀).own_val (ref b₀ o₀ γ₀ ys₀) (slice_val (b₀, o₀) n₀ ∷ [])) ∷ Γ) (settles E d u p))
      → Seq K 𝓛 (‵ (flft κ₀ q₀) ∷ ‵ ((MutSlice (named 0) κ₀ R₀).own_val (ref b₀ o₀ γ₀ ys₀) (slice_val (b₀, o₀) n₀ ∷ [])) ∷ Γ) (runs C Λ E (call f xs d) p)
  calls_view_last t fm R₀ Q ss ks c known {κ₀} {q₀} b₀ o₀ γ₀ ys₀ n₀ en₀ shares₀ within₀ a vss own g req ψ ens os k =
      lend_view t tt R₀ b₀ o₀ γ₀ ys₀ n₀ en₀ shares₀ within₀ (λ ν₀ room₀.
      move t (1 ∷ 0 ∷ []) $ move t (1 ∷ 0 ∷ []) $ fjoin t $ use1 𝓛 (raw (pre (ν₀ ∷ [], tt))) (goes (ν₀ ∷ [], tt)) $
      calls_at_last t fm (contract_of 𝓛 (shr_ended R₀ Q ss ks) c) known (y (ν₀ ∷ [], tt)) (os (ν₀ ∷ [], tt)) (λ u.
      use1 𝓛 (later (some (λ (r : Q.Denot). ((‵ (flft (ν₀ ∷ []) full_share) ⊛ ‵ ftrue) ⊛ ‵ (Q.own_val r (u ∷ []))) ⊛ raw (ensured 𝓛 (shr_ended R₀ Q ss ks) c (ν₀ ∷ [], tt) (args (ν₀ ∷ [], tt)) (g (ν₀ ∷ [], tt)) r)))) (id⊢ 𝓤 _) $ await t tt $ pick t (λ r. split t $ move t (1 ∷ []) $
      use1 𝓛 (some (λ (ws : Lasts (shr_ended R₀ Q ss ks) (ν₀ ∷ [], tt) (args (ν₀ ∷ [], tt))). ‵ (lasts (shr_ended R₀ Q ss ks) (ν₀ ∷ [], tt) (args (ν₀ ∷ [], tt)) ws) ⊛ raw ((c (ν₀ ∷ [], tt) (args (ν₀ ∷ [], tt))).ensures (g (ν₀ ∷ [], tt)) r (at_exit (shr_ended R₀ Q ss ks) (ν₀ ∷ [], tt) (args (ν₀ ∷ [], tt)) ws)))) (id⊢ 𝓤 _) $ pick t (λ ws. split t $ move t (1 ∷ []) $
      use1 𝓛 (raw (fact 𝓤 (ψ r))) (ens (ν₀ ∷ [], tt) r ws) $ heard t (ψ r) (λ e.
      fsplit t $ drop t $ drop t $ split t $ move t (1 ∷ []) $ peeks t Q (Is Q) (shows 𝓛 Q) r (u ∷ []) (λ is. drop t $ split t $ move t (1 ∷ []) $ drop t $
      back_view t tt R₀ b₀ o₀ γ₀ ys₀ n₀ en₀ ν₀ room₀ (k u r e is)))))))
    where
      args : (κs : Lfts 1) → Args (shr_ended R₀ Q ss ks).signature κs
      args κs = (seen b₀ o₀ ys₀, a κs)

      y : (κs : Lfts 1) → (contract_of 𝓛 (shr_ended R₀ Q ss ks) c).Ghost
      y κs = ((κs, (full_share, tt), tt, (seen b₀ o₀ ys₀, a κs), (slice_val (b₀, o₀) n₀ ∷ [], vss κs)), g κs)

      pre : (κs : Lfts 1) → SProp 𝓤
      pre κs = (contract_of 𝓛 (shr_ended R₀ Q ss ks) c).pre (y κs)

      goes : (κs : Lfts 1) → ent 𝓤 (sem 𝓛 (fsep (flft κs.0 full_share) ((ShrSlice (named 0) κs.0 R₀).own_val (seen b₀ o₀ ys₀) (slice_val (b₀, o₀) n₀ ∷ [])))) (pre κs)
      goes κs =
          qed 𝓛 (‵ (fsep (flft κs.0 full_share) ((ShrSlice (named 0) κs.0 R₀).own_val (seen b₀ o₀ ys₀) (slice_val (b₀, o₀) n₀ ∷ []))) ∷ []) ∵ fsplit ! $
          use0 𝓛 (raw ((c κs (seen b₀ o₀ ys₀, a κs)).requires (g κs))) (req κs) $ use0 𝓛 (‵ (owns (types_at ss κs) (a κs) (vss κs))) (own κs) $ move ! (3 ∷ 0 ∷ []) $ fjoin ! $ nothing ! $ move ! (3 ∷ 0 ∷ []) $ join ! $ join ! $ frame ! $ done !

  pub calls_mut_mut_last : K → FmC 𝓤 H 𝓛.laws C → (R₀ R₁ Q : RattleType) (ss : List (Slot 2)) (ks : Kepts ss) (c : Clauses 𝓤 (mut_mut_ended R₀ R₁ Q ss ks)) → Triple 𝓤 (C f) (contract_of 𝓛 (mut_mut_ended R₀ R₁ Q ss ks) c)
      → {κ₀ : Lft} {q₀ : Share} (b₀ o₀ : ℕ) (γ₀ : GName) (ys₀ : List R₀.Denot) (n₀ : ℕ) → length ys₀ ≡ n₀
      → {κ₁ : Lft} {q₁ : Share} (b₁ o₁ : ℕ) (γ₁ : GName) (ys₁ : List R₁.Denot) (n₁ : ℕ) → length ys₁ ≡ n₁
      → (a : (κs : Lfts 2) → Denots (types_at ss κs)) (vss : (κs : Lfts 2) → Valss (types_at ss κs)) → ((κs : Lfts 2) → ent 𝓤 (emp 𝓤) (sem 𝓛 (owns (types_at ss κs) (a κs) (vss κs))))
      → (g : (κs : Lfts 2) (δ₀ δ₁ : GName) → (c κs (ref b₀ o₀ δ₀ ys₀, (ref b₁ o₁ δ₁ ys₁, a κs))).ghost) → ((κs : Lfts 2) (δ₀ δ₁ : GName) → ent 𝓤 (emp 𝓤) ((c κs (ref b₀ o₀ δ₀ ys₀, (ref b₁ o₁ δ₁ ys₁, a κs))).requires (g κs δ₀ δ₁)))
      → (ψ : Q.Denot → List R₀.Denot → List R₁.Denot → Type 0) → ((κs : Lfts 2) (δ₀ δ₁ : GName) (r : Q.Denot) (ws : Lasts (mut_mut_ended R₀ R₁ Q ss ks) κs (ref b₀ o₀ δ₀ ys₀, (ref b₁ o₁ δ₁ ys₁, a κs))) → ent 𝓤 ((c κs (ref b₀ o₀ δ₀ ys₀, (ref b₁ o₁ δ₁ ys₁, a κs))).ensures (g κs δ₀ δ₁) r (at_exit (mut_mut_ended R₀ R₁ Q ss ks) κs (ref b₀ o₀ δ₀ ys₀, (ref b₁ o₁ δ₁ ys₁, a κs)) ws)) (fact 𝓤 (ψ r ws.0 ws.1.0)))
      → ((κs : Lfts 2) (δ₀ δ₁ : GName) → Opds K 𝓛 (raw ((contract_of 𝓛 (mut_mut_ended R₀ R₁ Q ss ks) c).pre ((κs, (full_share, (full_share, tt)), tt, (ref b₀ o₀ δ₀ ys₀, (ref b₁ o₁ δ₁ ys₁, a κs)), (slice_val (b₀, o₀) n₀ ∷ [], (slice_val (b₁, o₁) n₁ ∷ [], vss κs))), g κs δ₀ δ₁)) ∷ ‵ ftrue ∷ ‵ (LentAgain R₀ κ₀ κs.0 q₀ γ₀ b₀ o₀ δ₀ ys₀) ∷ ‵ (LentAgain R₁ κ₁ κs.1.0 q₁ γ₁ b₁ o₁ δ₁ ys₁) ∷ Γ) E xs (slice_val (b₀, o₀) n₀ ∷ slice_val (b₁, o₁) n₁ ∷ flat (types_at ss κs) (vss κs)))
      → ((u : Val) (r : Q.Denot) (zs₀ : List R₀.Denot) (zs₁ : List R₁.Denot) → length zs₀ ≡ n₀ → length zs₁ ≡ n₁ → ψ r zs₀ zs₁ → Is Q r (u ∷ []) → Seq K 𝓛 (‵ (flft κ₀ q₀) ∷ ‵ ((MutSlice (named 0) κ₀ R₀).own_val (ref b₀ o₀ γ₀ zs₀) (slice_val (b₀, o₀) n₀ ∷ [])) ∷ ‵ (flft κ₁ q₁) ∷ ‵ ((MutSlice (named 0) κ₁ R₁).own_val (ref b₁ o₁ γ₁ zs₁) (slice_val (b₁, o₁) n₁ ∷ [])) ∷ Γ) (settles E d u p))
      → Seq K 𝓛 (‵ (flft κ₀ q₀) ∷ ‵ ((MutSlice (named 0) κ₀ R₀).own_val (ref b₀ o₀ γ₀ ys₀) (slice_val (b₀, o₀) n₀ ∷ [])) ∷ ‵ (flft κ₁ q₁) ∷ ‵ ((MutSlice (named 0) κ₁ R₁).own_val (ref b₁ o₁ γ₁ ys₁) (slice_val (b₁, o₁) n₁ ∷ [])) ∷ Γ) (runs C Λ E (call f xs d) p)
  calls_mut_mut_last t fm R₀ R₁ Q ss ks c known {κ₀} {q₀} b₀ o₀ γ₀ ys₀ n₀ en₀ {κ₁} {q₁} b₁ o₁ γ₁ ys₁ n₁ en₁ a vss own g req ψ ens os k =
      lend_mut t tt R₀ b₀ o₀ γ₀ ys₀ n₀ en₀ (λ ν₀ δ₀ room₀.
      move t (3 ∷ 4 ∷ []) $ lend_mut t tt R₁ b₁ o₁ γ₁ ys₁ n₁ en₁ (λ ν₁ δ₁ room₁.
      move t (1 ∷ 4 ∷ 0 ∷ 3 ∷ []) $ move t (1 ∷ 0 ∷ []) $ fjoin t $ move t (1 ∷ 0 ∷ []) $ fjoin t $ move t (1 ∷ 0 ∷ []) $ fjoin t $ use1 𝓛 (raw (pre (ν₀ ∷ [], (ν₁ ∷ [], tt)) δ₀ δ₁)) (goes (ν₀ ∷ [], (ν₁ ∷ [], tt)) δ₀ δ₁) $ nothing t $ move t (1 ∷ 0 ∷ 3 ∷ 2 ∷ []) $
      calls_at_last t fm (contract_of 𝓛 (mut_mut_ended R₀ R₁ Q ss ks) c) known (y (ν₀ ∷ [], (ν₁ ∷ [], tt)) δ₀ δ₁) (os (ν₀ ∷ [], (ν₁ ∷ [], tt)) δ₀ δ₁) (λ u.
      use1 𝓛 (later (some (λ (r : Q.Denot). ((‵ (flft (ν₀ ∷ []) full_share) ⊛ (‵ (flft (ν₁ ∷ []) full_share) ⊛ ‵ ftrue)) ⊛ ‵ (Q.own_val r (u ∷ []))) ⊛ raw (ensured 𝓛 (mut_mut_ended R₀ R₁ Q ss ks) c (ν₀ ∷ [], (ν₁ ∷ [], tt)) (args (ν₀ ∷ [], (ν₁ ∷ [], tt)) δ₀ δ₁) (g (ν₀ ∷ [], (ν₁ ∷ [], tt)) δ₀ δ₁) r)))) (id⊢ 𝓤 _) $ await t tt $ pick t (λ r. split t $ move t (1 ∷ []) $
      use1 𝓛 (some (λ (ws : Lasts (mut_mut_ended R₀ R₁ Q ss ks) (ν₀ ∷ [], (ν₁ ∷ [], tt)) (args (ν₀ ∷ [], (ν₁ ∷ [], tt)) δ₀ δ₁)). ‵ (lasts (mut_mut_ended R₀ R₁ Q ss ks) (ν₀ ∷ [], (ν₁ ∷ [], tt)) (args (ν₀ ∷ [], (ν₁ ∷ [], tt)) δ₀ δ₁) ws) ⊛ raw ((c (ν₀ ∷ [], (ν₁ ∷ [], tt)) (args (ν₀ ∷ [], (ν₁ ∷ [], tt)) δ₀ δ₁)).ensures (g (ν₀ ∷ [], (ν₁ ∷ [], tt)) δ₀ δ₁) r (at_exit (mut_mut_ended R₀ R₁ Q ss ks) (ν₀ ∷ [], (ν₁ ∷ [], tt)) (args (ν₀ ∷ [], (ν₁ ∷ [], tt)) δ₀ δ₁) ws)))) (id⊢ 𝓤 _) $ pick t (λ ws. split t $ move t (1 ∷ []) $
      use1 𝓛 (raw (fact 𝓤 (ψ r ws.0 ws.1.0))) (ens (ν₀ ∷ [], (ν₁ ∷ [], tt)) δ₀ δ₁ r ws) $ heard t (ψ r ws.0 ws.1.0) (λ e.
      fsplit t $ fsplit t $ fsplit t $ move t (1 ∷ []) $ feq_l t (λ l₀. move t (1 ∷ []) $ drop t $ move t (1 ∷ []) $ fsplit t $ fsplit t $ fsplit t $ move t (1 ∷ []) $ feq_l t (λ l₁. move t (1 ∷ []) $ drop t $ move t (1 ∷ []) $ drop t $ move t (2 ∷ []) $ split t $ move t (1 ∷ []) $ peeks t Q (Is Q) (shows 𝓛 Q) r (u ∷ []) (λ is. drop t $ split t $ move t (1 ∷ []) $ split t $ move t (1 ∷ []) $ drop t $
      move t (1 ∷ 5 ∷ 3 ∷ []) $ back_mut t tt R₀ b₀ o₀ γ₀ ys₀ n₀ en₀ ν₀ δ₀ room₀ ws.0 l₀ (move t (2 ∷ 5 ∷ 3 ∷ []) $ back_mut t tt R₁ b₁ o₁ γ₁ ys₁ n₁ en₁ ν₁ δ₁ room₁ ws.1.0 l₁ (move t (4 ∷ []) $ drop t $ move t (2 ∷ 3 ∷ 0 ∷ 1 ∷ []) $ k u r ws.0 ws.1.0 (l₀ ∙ en₀) (l₁ ∙ en₁) e is)))))))))))
    where
      args : (κs : Lfts 2) (δ₀ δ₁ : GName) → Args (mut_mut_ended R₀ R₁ Q ss ks).signature κs
      args κs δ₀ δ₁ = (ref b₀ o₀ δ₀ ys₀, (ref b₁ o₁ δ₁ ys₁, a κs))

      y : (κs : Lfts 2) (δ₀ δ₁ : GName) → (contract_of 𝓛 (mut_mut_ended R₀ R₁ Q ss ks) c).Ghost
      y κs δ₀ δ₁ = ((κs, (full_share, (full_share, tt)), tt, (ref b₀ o₀ δ₀ ys₀, (ref b₁ o₁ δ₁ ys₁, a κs)), (slice_val (b₀, o₀) n₀ ∷ [], (slice_val (b₁, o₁) n₁ ∷ [], vss κs))), g κs δ₀ δ₁)

      pre : (κs : Lfts 2) (δ₀ δ₁ : GName) → SProp 𝓤
      pre κs δ₀ δ₁ = (contract_of 𝓛 (mut_mut_ended R₀ R₁ Q ss ks) c).pre (y κs δ₀ δ₁)

      goes : (κs : Lfts 2) (δ₀ δ₁ : GName) → ent 𝓤 (sem 𝓛 (fsep (flft κs.0 full_share) (fsep (flft κs.1.0 full_share) (fsep ((MutSlice (named 0) κs.0 R₀).own_val (ref b₀ o₀ δ₀ ys₀) (slice_val (b₀, o₀) n₀ ∷ [])) ((MutSlice (named 0) κs.1.0 R₁).own_val (ref b₁ o₁ δ₁ ys₁) (slice_val (b₁, o₁) n₁ ∷ [])))))) (pre κs δ₀ δ₁)
      goes κs δ₀ δ₁ =
          qed 𝓛 (‵ (fsep (flft κs.0 full_share) (fsep (flft κs.1.0 full_share) (fsep ((MutSlice (named 0) κs.0 R₀).own_val (ref b₀ o₀ δ₀ ys₀) (slice_val (b₀, o₀) n₀ ∷ [])) ((MutSlice (named 0) κs.1.0 R₁).own_val (ref b₁ o₁ δ₁ ys₁) (slice_val (b₁, o₁) n₁ ∷ []))))) ∷ []) ∵ fsplit ! $ move ! (1 ∷ []) $ fsplit ! $ move ! (1 ∷ []) $ fsplit ! $
          use0 𝓛 (raw ((c κs (ref b₀ o₀ δ₀ ys₀, (ref b₁ o₁ δ₁ ys₁, a κs))).requires (g κs δ₀ δ₁))) (req κs δ₀ δ₁) $ use0 𝓛 (‵ (owns (types_at ss κs) (a κs) (vss κs))) (own κs) $ move ! (3 ∷ 0 ∷ []) $ fjoin ! $ move ! (2 ∷ 0 ∷ []) $ fjoin ! $ nothing ! $ move ! (3 ∷ 0 ∷ []) $ join ! $ move ! (3 ∷ 0 ∷ []) $ join ! $ join ! $ frame ! $ done !

  pub calls_mut_shr_last : K → FmC 𝓤 H 𝓛.laws C → (R₀ R₁ Q : RattleType) (ss : List (Slot 2)) (ks : Kepts ss) (c : Clauses 𝓤 (mut_shr_ended R₀ R₁ Q ss ks)) → Triple 𝓤 (C f) (contract_of 𝓛 (mut_shr_ended R₀ R₁ Q ss ks) c)
      → {κ₀ : Lft} {q₀ : Share} (b₀ o₀ : ℕ) (γ₀ : GName) (ys₀ : List R₀.Denot) (n₀ : ℕ) → length ys₀ ≡ n₀
      → {κ₁ : Lft} {q₁ : Share} (b₁ o₁ : ℕ) (ys₁ : List R₁.Denot) (n₁ : ℕ) → length ys₁ ≡ n₁ → RowLaws R₁
      → (a : (κs : Lfts 2) → Denots (types_at ss κs)) (vss : (κs : Lfts 2) → Valss (types_at ss κs)) → ((κs : Lfts 2) → ent 𝓤 (emp 𝓤) (sem 𝓛 (owns (types_at ss κs) (a κs) (vss κs))))
      → (g : (κs : Lfts 2) (δ₀ : GName) → (c κs (ref b₀ o₀ δ₀ ys₀, (seen b₁ o₁ ys₁, a κs))).ghost) → ((κs : Lfts 2) (δ₀ : GName) → ent 𝓤 (emp 𝓤) ((c κs (ref b₀ o₀ δ₀ ys₀, (seen b₁ o₁ ys₁, a κs))).requires (g κs δ₀)))
      → (ψ : Q.Denot → List R₀.Denot → Type 0) → ((κs : Lfts 2) (δ₀ : GName) (r : Q.Denot) (ws : Lasts (mut_shr_ended R₀ R₁ Q ss ks) κs (ref b₀ o₀ δ₀ ys₀, (seen b₁ o₁ ys₁, a κs))) → ent 𝓤 ((c κs (ref b₀ o₀ δ₀ ys₀, (seen b₁ o₁ ys₁, a κs))).ensures (g κs δ₀) r (at_exit (mut_shr_ended R₀ R₁ Q ss ks) κs (ref b₀ o₀ δ₀ ys₀, (seen b₁ o₁ ys₁, a κs)) ws)) (fact 𝓤 (ψ r ws.0)))
      → ((κs : Lfts 2) (δ₀ : GName) → Opds K 𝓛 (raw ((contract_of 𝓛 (mut_shr_ended R₀ R₁ Q ss ks) c).pre ((κs, (full_share, (q₁, tt)), tt, (ref b₀ o₀ δ₀ ys₀, (seen b₁ o₁ ys₁, a κs)), (slice_val (b₀, o₀) n₀ ∷ [], (slice_val (b₁, o₁) n₁ ∷ [], vss κs))), g κs δ₀)) ∷ ‵ ftrue ∷ ‵ (LentAgain R₀ κ₀ κs.0 q₀ γ₀ b₀ o₀ δ₀ ys₀) ∷ ‵ ((ShrSlice (named 0) κ₁ R₁).own_val (seen b₁ o₁ ys₁) (slice_val (b₁, o₁) n₁ ∷ [])) ∷ Γ) E xs (slice_val (b₀, o₀) n₀ ∷ slice_val (b₁, o₁) n₁ ∷ flat (types_at ss κs) (vss κs)))
      → ((u : Val) (r : Q.Denot) (zs₀ : List R₀.Denot) → length zs₀ ≡ n₀ → ψ r zs₀ → Is Q r (u ∷ []) → Seq K 𝓛 (‵ (flft κ₀ q₀) ∷ ‵ ((MutSlice (named 0) κ₀ R₀).own_val (ref b₀ o₀ γ₀ zs₀) (slice_val (b₀, o₀) n₀ ∷ [])) ∷ ‵ (flft κ₁ q₁) ∷ ‵ ((ShrSlice (named 0) κ₁ R₁).own_val (seen b₁ o₁ ys₁) (slice_val (b₁, o₁) n₁ ∷ [])) ∷ Γ) (settles E d u p))
      → Seq K 𝓛 (‵ (flft κ₀ q₀) ∷ ‵ ((MutSlice (named 0) κ₀ R₀).own_val (ref b₀ o₀ γ₀ ys₀) (slice_val (b₀, o₀) n₀ ∷ [])) ∷ ‵ (flft κ₁ q₁) ∷ ‵ ((ShrSlice (named 0) κ₁ R₁).own_val (seen b₁ o₁ ys₁) (slice_val (b₁, o₁) n₁ ∷ [])) ∷ Γ) (runs C Λ E (call f xs d) p)
  calls_mut_shr_last t fm R₀ R₁ Q ss ks c known {κ₀} {q₀} b₀ o₀ γ₀ ys₀ n₀ en₀ {κ₁} {q₁} b₁ o₁ ys₁ n₁ en₁ laws₁ a vss own g req ψ ens os k =
      lend_mut t tt R₀ b₀ o₀ γ₀ ys₀ n₀ en₀ (λ ν₀ δ₀ room₀.
      move t (3 ∷ 4 ∷ []) $ lend_shr t R₁ laws₁ (seen b₁ o₁ ys₁) (slice_val (b₁, o₁) n₁ ∷ []) (
      move t (1 ∷ 4 ∷ 0 ∷ 3 ∷ []) $ move t (1 ∷ 0 ∷ []) $ fjoin t $ move t (1 ∷ 0 ∷ []) $ fjoin t $ move t (1 ∷ 0 ∷ []) $ fjoin t $ use1 𝓛 (raw (pre (ν₀ ∷ [], (κ₁, tt)) δ₀)) (goes (ν₀ ∷ [], (κ₁, tt)) δ₀) $ nothing t $ move t (1 ∷ 0 ∷ 3 ∷ 2 ∷ []) $
      calls_at_last t fm (contract_of 𝓛 (mut_shr_ended R₀ R₁ Q ss ks) c) known (y (ν₀ ∷ [], (κ₁, tt)) δ₀) (os (ν₀ ∷ [], (κ₁, tt)) δ₀) (λ u.
      use1 𝓛 (later (some (λ (r : Q.Denot). ((‵ (flft (ν₀ ∷ []) full_share) ⊛ (‵ (flft κ₁ q₁) ⊛ ‵ ftrue)) ⊛ ‵ (Q.own_val r (u ∷ []))) ⊛ raw (ensured 𝓛 (mut_shr_ended R₀ R₁ Q ss ks) c (ν₀ ∷ [], (κ₁, tt)) (args (ν₀ ∷ [], (κ₁, tt)) δ₀) (g (ν₀ ∷ [], (κ₁, tt)) δ₀) r)))) (id⊢ 𝓤 _) $ await t tt $ pick t (λ r. split t $ move t (1 ∷ []) $
      use1 𝓛 (some (λ (ws : Lasts (mut_shr_ended R₀ R₁ Q ss ks) (ν₀ ∷ [], (κ₁, tt)) (args (ν₀ ∷ [], (κ₁, tt)) δ₀)). ‵ (lasts (mut_shr_ended R₀ R₁ Q ss ks) (ν₀ ∷ [], (κ₁, tt)) (args (ν₀ ∷ [], (κ₁, tt)) δ₀) ws) ⊛ raw ((c (ν₀ ∷ [], (κ₁, tt)) (args (ν₀ ∷ [], (κ₁, tt)) δ₀)).ensures (g (ν₀ ∷ [], (κ₁, tt)) δ₀) r (at_exit (mut_shr_ended R₀ R₁ Q ss ks) (ν₀ ∷ [], (κ₁, tt)) (args (ν₀ ∷ [], (κ₁, tt)) δ₀) ws)))) (id⊢ 𝓤 _) $ pick t (λ ws. split t $ move t (1 ∷ []) $
      use1 𝓛 (raw (fact 𝓤 (ψ r ws.0))) (ens (ν₀ ∷ [], (κ₁, tt)) δ₀ r ws) $ heard t (ψ r ws.0) (λ e.
      fsplit t $ fsplit t $ fsplit t $ move t (1 ∷ []) $ feq_l t (λ l₀. move t (1 ∷ []) $ drop t $ move t (1 ∷ []) $ fsplit t $ drop t $ drop t $ move t (1 ∷ []) $ split t $ move t (1 ∷ []) $ peeks t Q (Is Q) (shows 𝓛 Q) r (u ∷ []) (λ is. drop t $ split t $ move t (1 ∷ []) $ split t $ move t (1 ∷ []) $ drop t $
      move t (1 ∷ 4 ∷ 2 ∷ []) $ back_mut t tt R₀ b₀ o₀ γ₀ ys₀ n₀ en₀ ν₀ δ₀ room₀ ws.0 l₀ (move t (3 ∷ []) $ drop t $ k u r ws.0 (l₀ ∙ en₀) e is)))))))))
    where
      args : (κs : Lfts 2) (δ₀ : GName) → Args (mut_shr_ended R₀ R₁ Q ss ks).signature κs
      args κs δ₀ = (ref b₀ o₀ δ₀ ys₀, (seen b₁ o₁ ys₁, a κs))

      y : (κs : Lfts 2) (δ₀ : GName) → (contract_of 𝓛 (mut_shr_ended R₀ R₁ Q ss ks) c).Ghost
      y κs δ₀ = ((κs, (full_share, (q₁, tt)), tt, (ref b₀ o₀ δ₀ ys₀, (seen b₁ o₁ ys₁, a κs)), (slice_val (b₀, o₀) n₀ ∷ [], (slice_val (b₁, o₁) n₁ ∷ [], vss κs))), g κs δ₀)

      pre : (κs : Lfts 2) (δ₀ : GName) → SProp 𝓤
      pre κs δ₀ = (contract_of 𝓛 (mut_shr_ended R₀ R₁ Q ss ks) c).pre (y κs δ₀)

      goes : (κs : Lfts 2) (δ₀ : GName) → ent 𝓤 (sem 𝓛 (fsep (flft κs.0 full_share) (fsep (flft κs.1.0 q₁) (fsep ((MutSlice (named 0) κs.0 R₀).own_val (ref b₀ o₀ δ₀ ys₀) (slice_val (b₀, o₀) n₀ ∷ [])) ((ShrSlice (named 0) κs.1.0 R₁).own_val (seen b₁ o₁ ys₁) (slice_val (b₁, o₁) n₁ ∷ [])))))) (pre κs δ₀)
      goes κs δ₀ =
          qed 𝓛 (‵ (fsep (flft κs.0 full_share) (fsep (flft κs.1.0 q₁) (fsep ((MutSlice (named 0) κs.0 R₀).own_val (ref b₀ o₀ δ₀ ys₀) (slice_val (b₀, o₀) n₀ ∷ [])) ((ShrSlice (named 0) κs.1.0 R₁).own_val (seen b₁ o₁ ys₁) (slice_val (b₁, o₁) n₁ ∷ []))))) ∷ []) ∵ fsplit ! $ move ! (1 ∷ []) $ fsplit ! $ move ! (1 ∷ []) $ fsplit ! $
          use0 𝓛 (raw ((c κs (ref b₀ o₀ δ₀ ys₀, (seen b₁ o₁ ys₁, a κs))).requires (g κs δ₀))) (req κs δ₀) $ use0 𝓛 (‵ (owns (types_at ss κs) (a κs) (vss κs))) (own κs) $ move ! (3 ∷ 0 ∷ []) $ fjoin ! $ move ! (2 ∷ 0 ∷ []) $ fjoin ! $ nothing ! $ move ! (3 ∷ 0 ∷ []) $ join ! $ move ! (3 ∷ 0 ∷ []) $ join ! $ join ! $ frame ! $ done !

  pub calls_shr_mut_last : K → FmC 𝓤 H 𝓛.laws C → (R₀ R₁ Q : RattleType) (ss : List (Slot 2)) (ks : Kepts ss) (c : Clauses 𝓤 (shr_mut_ended R₀ R₁ Q ss ks)) → Triple 𝓤 (C f) (contract_of 𝓛 (shr_mut_ended R₀ R₁ Q ss ks) c)
      → {κ₀ : Lft} {q₀ : Share} (b₀ o₀ : ℕ) (ys₀ : List R₀.Denot) (n₀ : ℕ) → length ys₀ ≡ n₀ → RowLaws R₀
      → {κ₁ : Lft} {q₁ : Share} (b₁ o₁ : ℕ) (γ₁ : GName) (ys₁ : List R₁.Denot) (n₁ : ℕ) → length ys₁ ≡ n₁
      → (a : (κs : Lfts 2) → Denots (types_at ss κs)) (vss : (κs : Lfts 2) → Valss (types_at ss κs)) → ((κs : Lfts 2) → ent 𝓤 (emp 𝓤) (sem 𝓛 (owns (types_at ss κs) (a κs) (vss κs))))
      → (g : (κs : Lfts 2) (δ₁ : GName) → (c κs (seen b₀ o₀ ys₀, (ref b₁ o₁ δ₁ ys₁, a κs))).ghost) → ((κs : Lfts 2) (δ₁ : GName) → ent 𝓤 (emp 𝓤) ((c κs (seen b₀ o₀ ys₀, (ref b₁ o₁ δ₁ ys₁, a κs))).requires (g κs δ₁)))
      → (ψ : Q.Denot → List R₁.Denot → Type 0) → ((κs : Lfts 2) (δ₁ : GName) (r : Q.Denot) (ws : Lasts (shr_mut_ended R₀ R₁ Q ss ks) κs (seen b₀ o₀ ys₀, (ref b₁ o₁ δ₁ ys₁, a κs))) → ent 𝓤 ((c κs (seen b₀ o₀ ys₀, (ref b₁ o₁ δ₁ ys₁, a κs))).ensures (g κs δ₁) r (at_exit (shr_mut_ended R₀ R₁ Q ss ks) κs (seen b₀ o₀ ys₀, (ref b₁ o₁ δ₁ ys₁, a κs)) ws)) (fact 𝓤 (ψ r ws.1.0)))
      → ((κs : Lfts 2) (δ₁ : GName) → Opds K 𝓛 (raw ((contract_of 𝓛 (shr_mut_ended R₀ R₁ Q ss ks) c).pre ((κs, (q₀, (full_share, tt)), tt, (seen b₀ o₀ ys₀, (ref b₁ o₁ δ₁ ys₁, a κs)), (slice_val (b₀, o₀) n₀ ∷ [], (slice_val (b₁, o₁) n₁ ∷ [], vss κs))), g κs δ₁)) ∷ ‵ ftrue ∷ ‵ ((ShrSlice (named 0) κ₀ R₀).own_val (seen b₀ o₀ ys₀) (slice_val (b₀, o₀) n₀ ∷ [])) ∷ ‵ (LentAgain R₁ κ₁ κs.1.0 q₁ γ₁ b₁ o₁ δ₁ ys₁) ∷ Γ) E xs (slice_val (b₀, o₀) n₀ ∷ slice_val (b₁, o₁) n₁ ∷ flat (types_at ss κs) (vss κs)))
      → ((u : Val) (r : Q.Denot) (zs₁ : List R₁.Denot) → length zs₁ ≡ n₁ → ψ r zs₁ → Is Q r (u ∷ []) → Seq K 𝓛 (‵ (flft κ₀ q₀) ∷ ‵ ((ShrSlice (named 0) κ₀ R₀).own_val (seen b₀ o₀ ys₀) (slice_val (b₀, o₀) n₀ ∷ [])) ∷ ‵ (flft κ₁ q₁) ∷ ‵ ((MutSlice (named 0) κ₁ R₁).own_val (ref b₁ o₁ γ₁ zs₁) (slice_val (b₁, o₁) n₁ ∷ [])) ∷ Γ) (settles E d u p))
      → Seq K 𝓛 (‵ (flft κ₀ q₀) ∷ ‵ ((ShrSlice (named 0) κ₀ R₀).own_val (seen b₀ o₀ ys₀) (slice_val (b₀, o₀) n₀ ∷ [])) ∷ ‵ (flft κ₁ q₁) ∷ ‵ ((MutSlice (named 0) κ₁ R₁).own_val (ref b₁ o₁ γ₁ ys₁) (slice_val (b₁, o₁) n₁ ∷ [])) ∷ Γ) (runs C Λ E (call f xs d) p)
  calls_shr_mut_last t fm R₀ R₁ Q ss ks c known {κ₀} {q₀} b₀ o₀ ys₀ n₀ en₀ laws₀ {κ₁} {q₁} b₁ o₁ γ₁ ys₁ n₁ en₁ a vss own g req ψ ens os k =
      lend_shr t R₀ laws₀ (seen b₀ o₀ ys₀) (slice_val (b₀, o₀) n₀ ∷ []) (
      move t (3 ∷ 4 ∷ []) $ lend_mut t tt R₁ b₁ o₁ γ₁ ys₁ n₁ en₁ (λ ν₁ δ₁ room₁.
      move t (1 ∷ 4 ∷ 0 ∷ 3 ∷ []) $ move t (1 ∷ 0 ∷ []) $ fjoin t $ move t (1 ∷ 0 ∷ []) $ fjoin t $ move t (1 ∷ 0 ∷ []) $ fjoin t $ use1 𝓛 (raw (pre (κ₀, (ν₁ ∷ [], tt)) δ₁)) (goes (κ₀, (ν₁ ∷ [], tt)) δ₁) $ nothing t $ move t (1 ∷ 0 ∷ 3 ∷ 2 ∷ []) $
      calls_at_last t fm (contract_of 𝓛 (shr_mut_ended R₀ R₁ Q ss ks) c) known (y (κ₀, (ν₁ ∷ [], tt)) δ₁) (os (κ₀, (ν₁ ∷ [], tt)) δ₁) (λ u.
      use1 𝓛 (later (some (λ (r : Q.Denot). ((‵ (flft κ₀ q₀) ⊛ (‵ (flft (ν₁ ∷ []) full_share) ⊛ ‵ ftrue)) ⊛ ‵ (Q.own_val r (u ∷ []))) ⊛ raw (ensured 𝓛 (shr_mut_ended R₀ R₁ Q ss ks) c (κ₀, (ν₁ ∷ [], tt)) (args (κ₀, (ν₁ ∷ [], tt)) δ₁) (g (κ₀, (ν₁ ∷ [], tt)) δ₁) r)))) (id⊢ 𝓤 _) $ await t tt $ pick t (λ r. split t $ move t (1 ∷ []) $
      use1 𝓛 (some (λ (ws : Lasts (shr_mut_ended R₀ R₁ Q ss ks) (κ₀, (ν₁ ∷ [], tt)) (args (κ₀, (ν₁ ∷ [], tt)) δ₁)). ‵ (lasts (shr_mut_ended R₀ R₁ Q ss ks) (κ₀, (ν₁ ∷ [], tt)) (args (κ₀, (ν₁ ∷ [], tt)) δ₁) ws) ⊛ raw ((c (κ₀, (ν₁ ∷ [], tt)) (args (κ₀, (ν₁ ∷ [], tt)) δ₁)).ensures (g (κ₀, (ν₁ ∷ [], tt)) δ₁) r (at_exit (shr_mut_ended R₀ R₁ Q ss ks) (κ₀, (ν₁ ∷ [], tt)) (args (κ₀, (ν₁ ∷ [], tt)) δ₁) ws)))) (id⊢ 𝓤 _) $ pick t (λ ws. split t $ move t (1 ∷ []) $
      use1 𝓛 (raw (fact 𝓤 (ψ r ws.1.0))) (ens (κ₀, (ν₁ ∷ [], tt)) δ₁ r ws) $ heard t (ψ r ws.1.0) (λ e.
      fsplit t $ drop t $ fsplit t $ fsplit t $ fsplit t $ move t (1 ∷ []) $ feq_l t (λ l₁. move t (1 ∷ []) $ drop t $ move t (1 ∷ []) $ drop t $ move t (1 ∷ []) $ split t $ move t (1 ∷ []) $ peeks t Q (Is Q) (shows 𝓛 Q) r (u ∷ []) (λ is. drop t $ split t $ move t (1 ∷ []) $ split t $ move t (1 ∷ []) $ drop t $
      move t (0 ∷ 5 ∷ 2 ∷ []) $ back_mut t tt R₁ b₁ o₁ γ₁ ys₁ n₁ en₁ ν₁ δ₁ room₁ ws.1.0 l₁ (move t (3 ∷ []) $ drop t $ move t (2 ∷ 3 ∷ 0 ∷ 1 ∷ []) $ k u r ws.1.0 (l₁ ∙ en₁) e is)))))))))
    where
      args : (κs : Lfts 2) (δ₁ : GName) → Args (shr_mut_ended R₀ R₁ Q ss ks).signature κs
      args κs δ₁ = (seen b₀ o₀ ys₀, (ref b₁ o₁ δ₁ ys₁, a κs))

      y : (κs : Lfts 2) (δ₁ : GName) → (contract_of 𝓛 (shr_mut_ended R₀ R₁ Q ss ks) c).Ghost
      y κs δ₁ = ((κs, (q₀, (full_share, tt)), tt, (seen b₀ o₀ ys₀, (ref b₁ o₁ δ₁ ys₁, a κs)), (slice_val (b₀, o₀) n₀ ∷ [], (slice_val (b₁, o₁) n₁ ∷ [], vss κs))), g κs δ₁)

      pre : (κs : Lfts 2) (δ₁ : GName) → SProp 𝓤
      pre κs δ₁ = (contract_of 𝓛 (shr_mut_ended R₀ R₁ Q ss ks) c).pre (y κs δ₁)

      goes : (κs : Lfts 2) (δ₁ : GName) → ent 𝓤 (sem 𝓛 (fsep (flft κs.0 q₀) (fsep (flft κs.1.0 full_share) (fsep ((ShrSlice (named 0) κs.0 R₀).own_val (seen b₀ o₀ ys₀) (slice_val (b₀, o₀) n₀ ∷ [])) ((MutSlice (named 0) κs.1.0 R₁).own_val (ref b₁ o₁ δ₁ ys₁) (slice_val (b₁, o₁) n₁ ∷ [])))))) (pre κs δ₁)
      goes κs δ₁ =
          qed 𝓛 (‵ (fsep (flft κs.0 q₀) (fsep (flft κs.1.0 full_share) (fsep ((ShrSlice (named 0) κs.0 R₀).own_val (seen b₀ o₀ ys₀) (slice_val (b₀, o₀) n₀ ∷ [])) ((MutSlice (named 0) κs.1.0 R₁).own_val (ref b₁ o₁ δ₁ ys₁) (slice_val (b₁, o₁) n₁ ∷ []))))) ∷ []) ∵ fsplit ! $ move ! (1 ∷ []) $ fsplit ! $ move ! (1 ∷ []) $ fsplit ! $
          use0 𝓛 (raw ((c κs (seen b₀ o₀ ys₀, (ref b₁ o₁ δ₁ ys₁, a κs))).requires (g κs δ₁))) (req κs δ₁) $ use0 𝓛 (‵ (owns (types_at ss κs) (a κs) (vss κs))) (own κs) $ move ! (3 ∷ 0 ∷ []) $ fjoin ! $ move ! (2 ∷ 0 ∷ []) $ fjoin ! $ nothing ! $ move ! (3 ∷ 0 ∷ []) $ join ! $ move ! (3 ∷ 0 ∷ []) $ join ! $ join ! $ frame ! $ done !

  pub calls_shr_shr_last : K → FmC 𝓤 H 𝓛.laws C → (R₀ R₁ Q : RattleType) (ss : List (Slot 2)) (ks : Kepts ss) (c : Clauses 𝓤 (shr_shr_ended R₀ R₁ Q ss ks)) → Triple 𝓤 (C f) (contract_of 𝓛 (shr_shr_ended R₀ R₁ Q ss ks) c)
      → {κ₀ : Lft} {q₀ : Share} (b₀ o₀ : ℕ) (ys₀ : List R₀.Denot) (n₀ : ℕ) → length ys₀ ≡ n₀ → RowLaws R₀
      → {κ₁ : Lft} {q₁ : Share} (b₁ o₁ : ℕ) (ys₁ : List R₁.Denot) (n₁ : ℕ) → length ys₁ ≡ n₁ → RowLaws R₁
      → (a : (κs : Lfts 2) → Denots (types_at ss κs)) (vss : (κs : Lfts 2) → Valss (types_at ss κs)) → ((κs : Lfts 2) → ent 𝓤 (emp 𝓤) (sem 𝓛 (owns (types_at ss κs) (a κs) (vss κs))))
      → (g : (κs : Lfts 2) → (c κs (seen b₀ o₀ ys₀, (seen b₁ o₁ ys₁, a κs))).ghost) → ((κs : Lfts 2) → ent 𝓤 (emp 𝓤) ((c κs (seen b₀ o₀ ys₀, (seen b₁ o₁ ys₁, a κs))).requires (g κs)))
      → (ψ : Q.Denot → Type 0) → ((κs : Lfts 2) (r : Q.Denot) (ws : Lasts (shr_shr_ended R₀ R₁ Q ss ks) κs (seen b₀ o₀ ys₀, (seen b₁ o₁ ys₁, a κs))) → ent 𝓤 ((c κs (seen b₀ o₀ ys₀, (seen b₁ o₁ ys₁, a κs))).ensures (g κs) r (at_exit (shr_shr_ended R₀ R₁ Q ss ks) κs (seen b₀ o₀ ys₀, (seen b₁ o₁ ys₁, a κs)) ws)) (fact 𝓤 (ψ r)))
      → ((κs : Lfts 2) → Opds K 𝓛 (raw ((contract_of 𝓛 (shr_shr_ended R₀ R₁ Q ss ks) c).pre ((κs, (q₀, (q₁, tt)), tt, (seen b₀ o₀ ys₀, (seen b₁ o₁ ys₁, a κs)), (slice_val (b₀, o₀) n₀ ∷ [], (slice_val (b₁, o₁) n₁ ∷ [], vss κs))), g κs)) ∷ ‵ ftrue ∷ ‵ ((ShrSlice (named 0) κ₀ R₀).own_val (seen b₀ o₀ ys₀) (slice_val (b₀, o₀) n₀ ∷ [])) ∷ ‵ ((ShrSlice (named 0) κ₁ R₁).own_val (seen b₁ o₁ ys₁) (slice_val (b₁, o₁) n₁ ∷ [])) ∷ Γ) E xs (slice_val (b₀, o₀) n₀ ∷ slice_val (b₁, o₁) n₁ ∷ flat (types_at ss κs) (vss κs)))
      → ((u : Val) (r : Q.Denot) → ψ r → Is Q r (u ∷ []) → Seq K 𝓛 (‵ (flft κ₀ q₀) ∷ ‵ ((ShrSlice (named 0) κ₀ R₀).own_val (seen b₀ o₀ ys₀) (slice_val (b₀, o₀) n₀ ∷ [])) ∷ ‵ (flft κ₁ q₁) ∷ ‵ ((ShrSlice (named 0) κ₁ R₁).own_val (seen b₁ o₁ ys₁) (slice_val (b₁, o₁) n₁ ∷ [])) ∷ Γ) (settles E d u p))
      → Seq K 𝓛 (‵ (flft κ₀ q₀) ∷ ‵ ((ShrSlice (named 0) κ₀ R₀).own_val (seen b₀ o₀ ys₀) (slice_val (b₀, o₀) n₀ ∷ [])) ∷ ‵ (flft κ₁ q₁) ∷ ‵ ((ShrSlice (named 0) κ₁ R₁).own_val (seen b₁ o₁ ys₁) (slice_val (b₁, o₁) n₁ ∷ [])) ∷ Γ) (runs C Λ E (call f xs d) p)
  calls_shr_shr_last t fm R₀ R₁ Q ss ks c known {κ₀} {q₀} b₀ o₀ ys₀ n₀ en₀ laws₀ {κ₁} {q₁} b₁ o₁ ys₁ n₁ en₁ laws₁ a vss own g req ψ ens os k =
      lend_shr t R₀ laws₀ (seen b₀ o₀ ys₀) (slice_val (b₀, o₀) n₀ ∷ []) (
      move t (3 ∷ 4 ∷ []) $ lend_shr t R₁ laws₁ (seen b₁ o₁ ys₁) (slice_val (b₁, o₁) n₁ ∷ []) (
      move t (1 ∷ 4 ∷ 0 ∷ 3 ∷ []) $ move t (1 ∷ 0 ∷ []) $ fjoin t $ move t (1 ∷ 0 ∷ []) $ fjoin t $ move t (1 ∷ 0 ∷ []) $ fjoin t $ use1 𝓛 (raw (pre (κ₀, (κ₁, tt)))) (goes (κ₀, (κ₁, tt))) $ nothing t $ move t (1 ∷ 0 ∷ 3 ∷ 2 ∷ []) $
      calls_at_last t fm (contract_of 𝓛 (shr_shr_ended R₀ R₁ Q ss ks) c) known (y (κ₀, (κ₁, tt))) (os (κ₀, (κ₁, tt))) (λ u.
      use1 𝓛 (later (some (λ (r : Q.Denot). ((‵ (flft κ₀ q₀) ⊛ (‵ (flft κ₁ q₁) ⊛ ‵ ftrue)) ⊛ ‵ (Q.own_val r (u ∷ []))) ⊛ raw (ensured 𝓛 (shr_shr_ended R₀ R₁ Q ss ks) c (κ₀, (κ₁, tt)) (args (κ₀, (κ₁, tt))) (g (κ₀, (κ₁, tt))) r)))) (id⊢ 𝓤 _) $ await t tt $ pick t (λ r. split t $ move t (1 ∷ []) $
      use1 𝓛 (some (λ (ws : Lasts (shr_shr_ended R₀ R₁ Q ss ks) (κ₀, (κ₁, tt)) (args (κ₀, (κ₁, tt)))). ‵ (lasts (shr_shr_ended R₀ R₁ Q ss ks) (κ₀, (κ₁, tt)) (args (κ₀, (κ₁, tt))) ws) ⊛ raw ((c (κ₀, (κ₁, tt)) (args (κ₀, (κ₁, tt)))).ensures (g (κ₀, (κ₁, tt))) r (at_exit (shr_shr_ended R₀ R₁ Q ss ks) (κ₀, (κ₁, tt)) (args (κ₀, (κ₁, tt))) ws)))) (id⊢ 𝓤 _) $ pick t (λ ws. split t $ move t (1 ∷ []) $
      use1 𝓛 (raw (fact 𝓤 (ψ r))) (ens (κ₀, (κ₁, tt)) r ws) $ heard t (ψ r) (λ e.
      fsplit t $ drop t $ fsplit t $ drop t $ drop t $ split t $ move t (1 ∷ []) $ peeks t Q (Is Q) (shows 𝓛 Q) r (u ∷ []) (λ is. drop t $ split t $ move t (1 ∷ []) $ split t $ move t (1 ∷ []) $ drop t $
      move t (2 ∷ []) $ drop t $ move t (1 ∷ 2 ∷ 0 ∷ 3 ∷ []) $ k u r e is)))))))
    where
      args : (κs : Lfts 2) → Args (shr_shr_ended R₀ R₁ Q ss ks).signature κs
      args κs = (seen b₀ o₀ ys₀, (seen b₁ o₁ ys₁, a κs))

      y : (κs : Lfts 2) → (contract_of 𝓛 (shr_shr_ended R₀ R₁ Q ss ks) c).Ghost
      y κs = ((κs, (q₀, (q₁, tt)), tt, (seen b₀ o₀ ys₀, (seen b₁ o₁ ys₁, a κs)), (slice_val (b₀, o₀) n₀ ∷ [], (slice_val (b₁, o₁) n₁ ∷ [], vss κs))), g κs)

      pre : (κs : Lfts 2) → SProp 𝓤
      pre κs = (contract_of 𝓛 (shr_shr_ended R₀ R₁ Q ss ks) c).pre (y κs)

      goes : (κs : Lfts 2) → ent 𝓤 (sem 𝓛 (fsep (flft κs.0 q₀) (fsep (flft κs.1.0 q₁) (fsep ((ShrSlice (named 0) κs.0 R₀).own_val (seen b₀ o₀ ys₀) (slice_val (b₀, o₀) n₀ ∷ [])) ((ShrSlice (named 0) κs.1.0 R₁).own_val (seen b₁ o₁ ys₁) (slice_val (b₁, o₁) n₁ ∷ [])))))) (pre κs)
      goes κs =
          qed 𝓛 (‵ (fsep (flft κs.0 q₀) (fsep (flft κs.1.0 q₁) (fsep ((ShrSlice (named 0) κs.0 R₀).own_val (seen b₀ o₀ ys₀) (slice_val (b₀, o₀) n₀ ∷ [])) ((ShrSlice (named 0) κs.1.0 R₁).own_val (seen b₁ o₁ ys₁) (slice_val (b₁, o₁) n₁ ∷ []))))) ∷ []) ∵ fsplit ! $ move ! (1 ∷ []) $ fsplit ! $ move ! (1 ∷ []) $ fsplit ! $
          use0 𝓛 (raw ((c κs (seen b₀ o₀ ys₀, (seen b₁ o₁ ys₁, a κs))).requires (g κs))) (req κs) $ use0 𝓛 (‵ (owns (types_at ss κs) (a κs) (vss κs))) (own κs) $ move ! (3 ∷ 0 ∷ []) $ fjoin ! $ move ! (2 ∷ 0 ∷ []) $ fjoin ! $ nothing ! $ move ! (3 ∷ 0 ∷ []) $ join ! $ move ! (3 ∷ 0 ∷ []) $ join ! $ join ! $ frame ! $ done !

  pub calls_view_mut_last : K → FmC 𝓤 H 𝓛.laws C → (R₀ R₁ Q : RattleType) (ss : List (Slot 2)) (ks : Kepts ss) (c : Clauses 𝓤 (shr_mut_ended R₀ R₁ Q ss ks)) → Triple 𝓤 (C f) (contract_of 𝓛 (shr_mut_ended R₀ R₁ Q ss ks) c)
      → {κ₀ : Lft} {q₀ : Share} (b₀ o₀ : ℕ) (γ₀ : GName) (ys₀ : List R₀.Denot) (n₀ : ℕ) → length ys₀ ≡ n₀ → Shares 𝓛 R₀ R₀.lives → Incl κ₀ R₀.lives
      → {κ₁ : Lft} {q₁ : Share} (b₁ o₁ : ℕ) (γ₁ : GName) (ys₁ : List R₁.Denot) (n₁ : ℕ) → length ys₁ ≡ n₁
      → (a : (κs : Lfts 2) → Denots (types_at ss κs)) (vss : (κs : Lfts 2) → Valss (types_at ss κs)) → ((κs : Lfts 2) → ent 𝓤 (emp 𝓤) (sem 𝓛 (owns (types_at ss κs) (a κs) (vss κs))))
      → (g : (κs : Lfts 2) (δ₁ : GName) → (c κs (seen b₀ o₀ ys₀, (ref b₁ o₁ δ₁ ys₁, a κs))).ghost) → ((κs : Lfts 2) (δ₁ : GName) → ent 𝓤 (emp 𝓤) ((c κs (seen b₀ o₀ ys₀, (ref b₁ o₁ δ₁ ys₁, a κs))).requires (g κs δ₁)))
      → (ψ : Q.Denot → List R₁.Denot → Type 0) → ((κs : Lfts 2) (δ₁ : GName) (r : Q.Denot) (ws : Lasts (shr_mut_ended R₀ R₁ Q ss ks) κs (seen b₀ o₀ ys₀, (ref b₁ o₁ δ₁ ys₁, a κs))) → ent 𝓤 ((c κs (seen b₀ o₀ ys₀, (ref b₁ o₁ δ₁ ys₁, a κs))).ensures (g κs δ₁) r (at_exit (shr_mut_ended R₀ R₁ Q ss ks) κs (seen b₀ o₀ ys₀, (ref b₁ o₁ δ₁ ys₁, a κs)) ws)) (fact 𝓤 (ψ r ws.1.0)))
      → ((κs : Lfts 2) (δ₁ : GName) → Opds K 𝓛 (raw ((contract_of 𝓛 (shr_mut_ended R₀ R₁ Q ss ks) c).pre ((κs, (full_share, (full_share, tt)), tt, (seen b₀ o₀ ys₀, (ref b₁ o₁ δ₁ ys₁, a κs)), (slice_val (b₀, o₀) n₀ ∷ [], (slice_val (b₁, o₁) n₁ ∷ [], vss κs))), g κs δ₁)) ∷ ‵ ftrue ∷ ‵ (Viewed R₀ κ₀ κs.0 q₀ γ₀ b₀ o₀ ys₀) ∷ ‵ (LentAgain R₁ κ₁ κs.1.0 q₁ γ₁ b₁ o₁ δ₁ ys₁) ∷ Γ) E xs (slice_val (b₀, o₀) n₀ ∷ slice_val (b₁, o₁) n₁ ∷ flat (types_at ss κs) (vss κs)))
      → ((u : Val) (r : Q.Denot) (zs₁ : List R₁.Denot) → length zs₁ ≡ n₁ → ψ r zs₁ → Is Q r (u ∷ []) → Seq K 𝓛 (‵ (flft κ₀ q₀) ∷ ‵ ((MutSlice (named 0) κ₀ R₀).own_val (ref b₀ o₀ γ₀ ys₀) (slice_val (b₀, o₀) n₀ ∷ [])) ∷ ‵ (flft κ₁ q₁) ∷ ‵ ((MutSlice (named 0) κ₁ R₁).own_val (ref b₁ o₁ γ₁ zs₁) (slice_val (b₁, o₁) n₁ ∷ [])) ∷ Γ) (settles E d u p))
      → Seq K 𝓛 (‵ (flft κ₀ q₀) ∷ ‵ ((MutSlice (named 0) κ₀ R₀).own_val (ref b₀ o₀ γ₀ ys₀) (slice_val (b₀, o₀) n₀ ∷ [])) ∷ ‵ (flft κ₁ q₁) ∷ ‵ ((MutSlice (named 0) κ₁ R₁).own_val (ref b₁ o₁ γ₁ ys₁) (slice_val (b₁, o₁) n₁ ∷ [])) ∷ Γ) (runs C Λ E (call f xs d) p)
  calls_view_mut_last t fm R₀ R₁ Q ss ks c known {κ₀} {q₀} b₀ o₀ γ₀ ys₀ n₀ en₀ shares₀ within₀ {κ₁} {q₁} b₁ o₁ γ₁ ys₁ n₁ en₁ a vss own g req ψ ens os k =
      lend_view t tt R₀ b₀ o₀ γ₀ ys₀ n₀ en₀ shares₀ within₀ (λ ν₀ room₀.
      move t (3 ∷ 4 ∷ []) $ lend_mut t tt R₁ b₁ o₁ γ₁ ys₁ n₁ en₁ (λ ν₁ δ₁ room₁.
      move t (1 ∷ 4 ∷ 0 ∷ 3 ∷ []) $ move t (1 ∷ 0 ∷ []) $ fjoin t $ move t (1 ∷ 0 ∷ []) $ fjoin t $ move t (1 ∷ 0 ∷ []) $ fjoin t $ use1 𝓛 (raw (pre (ν₀ ∷ [], (ν₁ ∷ [], tt)) δ₁)) (goes (ν₀ ∷ [], (ν₁ ∷ [], tt)) δ₁) $ nothing t $ move t (1 ∷ 0 ∷ 3 ∷ 2 ∷ []) $
      calls_at_last t fm (contract_of 𝓛 (shr_mut_ended R₀ R₁ Q ss ks) c) known (y (ν₀ ∷ [], (ν₁ ∷ [], tt)) δ₁) (os (ν₀ ∷ [], (ν₁ ∷ [], tt)) δ₁) (λ u.
      use1 𝓛 (later (some (λ (r : Q.Denot). ((‵ (flft (ν₀ ∷ []) full_share) ⊛ (‵ (flft (ν₁ ∷ []) full_share) ⊛ ‵ ftrue)) ⊛ ‵ (Q.own_val r (u ∷ []))) ⊛ raw (ensured 𝓛 (shr_mut_ended R₀ R₁ Q ss ks) c (ν₀ ∷ [], (ν₁ ∷ [], tt)) (args (ν₀ ∷ [], (ν₁ ∷ [], tt)) δ₁) (g (ν₀ ∷ [], (ν₁ ∷ [], tt)) δ₁) r)))) (id⊢ 𝓤 _) $ await t tt $ pick t (λ r. split t $ move t (1 ∷ []) $
      use1 𝓛 (some (λ (ws : Lasts (shr_mut_ended R₀ R₁ Q ss ks) (ν₀ ∷ [], (ν₁ ∷ [], tt)) (args (ν₀ ∷ [], (ν₁ ∷ [], tt)) δ₁)). ‵ (lasts (shr_mut_ended R₀ R₁ Q ss ks) (ν₀ ∷ [], (ν₁ ∷ [], tt)) (args (ν₀ ∷ [], (ν₁ ∷ [], tt)) δ₁) ws) ⊛ raw ((c (ν₀ ∷ [], (ν₁ ∷ [], tt)) (args (ν₀ ∷ [], (ν₁ ∷ [], tt)) δ₁)).ensures (g (ν₀ ∷ [], (ν₁ ∷ [], tt)) δ₁) r (at_exit (shr_mut_ended R₀ R₁ Q ss ks) (ν₀ ∷ [], (ν₁ ∷ [], tt)) (args (ν₀ ∷ [], (ν₁ ∷ [], tt)) δ₁) ws)))) (id⊢ 𝓤 _) $ pick t (λ ws. split t $ move t (1 ∷ []) $
      use1 𝓛 (raw (fact 𝓤 (ψ r ws.1.0))) (ens (ν₀ ∷ [], (ν₁ ∷ [], tt)) δ₁ r ws) $ heard t (ψ r ws.1.0) (λ e.
      fsplit t $ drop t $ fsplit t $ fsplit t $ fsplit t $ move t (1 ∷ []) $ feq_l t (λ l₁. move t (1 ∷ []) $ drop t $ move t (1 ∷ []) $ drop t $ move t (1 ∷ []) $ split t $ move t (1 ∷ []) $ peeks t Q (Is Q) (shows 𝓛 Q) r (u ∷ []) (λ is. drop t $ split t $ move t (1 ∷ []) $ split t $ move t (1 ∷ []) $ drop t $
      move t (1 ∷ 4 ∷ []) $ back_view t tt R₀ b₀ o₀ γ₀ ys₀ n₀ en₀ ν₀ room₀ (move t (2 ∷ 5 ∷ 3 ∷ []) $ back_mut t tt R₁ b₁ o₁ γ₁ ys₁ n₁ en₁ ν₁ δ₁ room₁ ws.1.0 l₁ (move t (4 ∷ []) $ drop t $ move t (2 ∷ 3 ∷ 0 ∷ 1 ∷ []) $ k u r ws.1.0 (l₁ ∙ en₁) e is))))))))))
    where
      args : (κs : Lfts 2) (δ₁ : GName) → Args (shr_mut_ended R₀ R₁ Q ss ks).signature κs
      args κs δ₁ = (seen b₀ o₀ ys₀, (ref b₁ o₁ δ₁ ys₁, a κs))

      y : (κs : Lfts 2) (δ₁ : GName) → (contract_of 𝓛 (shr_mut_ended R₀ R₁ Q ss ks) c).Ghost
      y κs δ₁ = ((κs, (full_share, (full_share, tt)), tt, (seen b₀ o₀ ys₀, (ref b₁ o₁ δ₁ ys₁, a κs)), (slice_val (b₀, o₀) n₀ ∷ [], (slice_val (b₁, o₁) n₁ ∷ [], vss κs))), g κs δ₁)

      pre : (κs : Lfts 2) (δ₁ : GName) → SProp 𝓤
      pre κs δ₁ = (contract_of 𝓛 (shr_mut_ended R₀ R₁ Q ss ks) c).pre (y κs δ₁)

      goes : (κs : Lfts 2) (δ₁ : GName) → ent 𝓤 (sem 𝓛 (fsep (flft κs.0 full_share) (fsep (flft κs.1.0 full_share) (fsep ((ShrSlice (named 0) κs.0 R₀).own_val (seen b₀ o₀ ys₀) (slice_val (b₀, o₀) n₀ ∷ [])) ((MutSlice (named 0) κs.1.0 R₁).own_val (ref b₁ o₁ δ₁ ys₁) (slice_val (b₁, o₁) n₁ ∷ [])))))) (pre κs δ₁)
      goes κs δ₁ =
          qed 𝓛 (‵ (fsep (flft κs.0 full_share) (fsep (flft κs.1.0 full_share) (fsep ((ShrSlice (named 0) κs.0 R₀).own_val (seen b₀ o₀ ys₀) (slice_val (b₀, o₀) n₀ ∷ [])) ((MutSlice (named 0) κs.1.0 R₁).own_val (ref b₁ o₁ δ₁ ys₁) (slice_val (b₁, o₁) n₁ ∷ []))))) ∷ []) ∵ fsplit ! $ move ! (1 ∷ []) $ fsplit ! $ move ! (1 ∷ []) $ fsplit ! $
          use0 𝓛 (raw ((c κs (seen b₀ o₀ ys₀, (ref b₁ o₁ δ₁ ys₁, a κs))).requires (g κs δ₁))) (req κs δ₁) $ use0 𝓛 (‵ (owns (types_at ss κs) (a κs) (vss κs))) (own κs) $ move ! (3 ∷ 0 ∷ []) $ fjoin ! $ move ! (2 ∷ 0 ∷ []) $ fjoin ! $ nothing ! $ move ! (3 ∷ 0 ∷ []) $ join ! $ move ! (3 ∷ 0 ∷ []) $ join ! $ join ! $ frame ! $ done !

  pub calls_view_view_last : K → FmC 𝓤 H 𝓛.laws C → (R₀ R₁ Q : RattleType) (ss : List (Slot 2)) (ks : Kepts ss) (c : Clauses 𝓤 (shr_shr_ended R₀ R₁ Q ss ks)) → Triple 𝓤 (C f) (contract_of 𝓛 (shr_shr_ended R₀ R₁ Q ss ks) c)
      → {κ₀ : Lft} {q₀ : Share} (b₀ o₀ : ℕ) (γ₀ : GName) (ys₀ : List R₀.Denot) (n₀ : ℕ) → length ys₀ ≡ n₀ → Shares 𝓛 R₀ R₀.lives → Incl κ₀ R₀.lives
      → {κ₁ : Lft} {q₁ : Share} (b₁ o₁ : ℕ) (γ₁ : GName) (ys₁ : List R₁.Denot) (n₁ : ℕ) → length ys₁ ≡ n₁ → Shares 𝓛 R₁ R₁.lives → Incl κ₁ R₁.lives
      → (a : (κs : Lfts 2) → Denots (types_at ss κs)) (vss : (κs : Lfts 2) → Valss (types_at ss κs)) → ((κs : Lfts 2) → ent 𝓤 (emp 𝓤) (sem 𝓛 (owns (types_at ss κs) (a κs) (vss κs))))
      → (g : (κs : Lfts 2) → (c κs (seen b₀ o₀ ys₀, (seen b₁ o₁ ys₁, a κs))).ghost) → ((κs : Lfts 2) → ent 𝓤 (emp 𝓤) ((c κs (seen b₀ o₀ ys₀, (seen b₁ o₁ ys₁, a κs))).requires (g κs)))
      → (ψ : Q.Denot → Type 0) → ((κs : Lfts 2) (r : Q.Denot) (ws : Lasts (shr_shr_ended R₀ R₁ Q ss ks) κs (seen b₀ o₀ ys₀, (seen b₁ o₁ ys₁, a κs))) → ent 𝓤 ((c κs (seen b₀ o₀ ys₀, (seen b₁ o₁ ys₁, a κs))).ensures (g κs) r (at_exit (shr_shr_ended R₀ R₁ Q ss ks) κs (seen b₀ o₀ ys₀, (seen b₁ o₁ ys₁, a κs)) ws)) (fact 𝓤 (ψ r)))
      → ((κs : Lfts 2) → Opds K 𝓛 (raw ((contract_of 𝓛 (shr_shr_ended R₀ R₁ Q ss ks) c).pre ((κs, (full_share, (full_share, tt)), tt, (seen b₀ o₀ ys₀, (seen b₁ o₁ ys₁, a κs)), (slice_val (b₀, o₀) n₀ ∷ [], (slice_val (b₁, o₁) n₁ ∷ [], vss κs))), g κs)) ∷ ‵ ftrue ∷ ‵ (Viewed R₀ κ₀ κs.0 q₀ γ₀ b₀ o₀ ys₀) ∷ ‵ (Viewed R₁ κ₁ κs.1.0 q₁ γ₁ b₁ o₁ ys₁) ∷ Γ) E xs (slice_val (b₀, o₀) n₀ ∷ slice_val (b₁, o₁) n₁ ∷ flat (types_at ss κs) (vss κs)))
      → ((u : Val) (r : Q.Denot) → ψ r → Is Q r (u ∷ []) → Seq K 𝓛 (‵ (flft κ₀ q₀) ∷ ‵ ((MutSlice (named 0) κ₀ R₀).own_val (ref b₀ o₀ γ₀ ys₀) (slice_val (b₀, o₀) n₀ ∷ [])) ∷ ‵ (flft κ₁ q₁) ∷ ‵ ((MutSlice (named 0) κ₁ R₁).own_val (ref b₁ o₁ γ₁ ys₁) (slice_val (b₁, o₁) n₁ ∷ [])) ∷ Γ) (settles E d u p))
      → Seq K 𝓛 (‵ (flft κ₀ q₀) ∷ ‵ ((MutSlice (named 0) κ₀ R₀).own_val (ref b₀ o₀ γ₀ ys₀) (slice_val (b₀, o₀) n₀ ∷ [])) ∷ ‵ (flft κ₁ q₁) ∷ ‵ ((MutSlice (named 0) κ₁ R₁).own_val (ref b₁ o₁ γ₁ ys₁) (slice_val (b₁, o₁) n₁ ∷ [])) ∷ Γ) (runs C Λ E (call f xs d) p)
  calls_view_view_last t fm R₀ R₁ Q ss ks c known {κ₀} {q₀} b₀ o₀ γ₀ ys₀ n₀ en₀ shares₀ within₀ {κ₁} {q₁} b₁ o₁ γ₁ ys₁ n₁ en₁ shares₁ within₁ a vss own g req ψ ens os k =
      lend_view t tt R₀ b₀ o₀ γ₀ ys₀ n₀ en₀ shares₀ within₀ (λ ν₀ room₀.
      move t (3 ∷ 4 ∷ []) $ lend_view t tt R₁ b₁ o₁ γ₁ ys₁ n₁ en₁ shares₁ within₁ (λ ν₁ room₁.
      move t (1 ∷ 4 ∷ 0 ∷ 3 ∷ []) $ move t (1 ∷ 0 ∷ []) $ fjoin t $ move t (1 ∷ 0 ∷ []) $ fjoin t $ move t (1 ∷ 0 ∷ []) $ fjoin t $ use1 𝓛 (raw (pre (ν₀ ∷ [], (ν₁ ∷ [], tt)))) (goes (ν₀ ∷ [], (ν₁ ∷ [], tt))) $ nothing t $ move t (1 ∷ 0 ∷ 3 ∷ 2 ∷ []) $
      calls_at_last t fm (contract_of 𝓛 (shr_shr_ended R₀ R₁ Q ss ks) c) known (y (ν₀ ∷ [], (ν₁ ∷ [], tt))) (os (ν₀ ∷ [], (ν₁ ∷ [], tt))) (λ u.
      use1 𝓛 (later (some (λ (r : Q.Denot). ((‵ (flft (ν₀ ∷ []) full_share) ⊛ (‵ (flft (ν₁ ∷ []) full_share) ⊛ ‵ ftrue)) ⊛ ‵ (Q.own_val r (u ∷ []))) ⊛ raw (ensured 𝓛 (shr_shr_ended R₀ R₁ Q ss ks) c (ν₀ ∷ [], (ν₁ ∷ [], tt)) (args (ν₀ ∷ [], (ν₁ ∷ [], tt))) (g (ν₀ ∷ [], (ν₁ ∷ [], tt))) r)))) (id⊢ 𝓤 _) $ await t tt $ pick t (λ r. split t $ move t (1 ∷ []) $
      use1 𝓛 (some (λ (ws : Lasts (shr_shr_ended R₀ R₁ Q ss ks) (ν₀ ∷ [], (ν₁ ∷ [], tt)) (args (ν₀ ∷ [], (ν₁ ∷ [], tt)))). ‵ (lasts (shr_shr_ended R₀ R₁ Q ss ks) (ν₀ ∷ [], (ν₁ ∷ [], tt)) (args (ν₀ ∷ [], (ν₁ ∷ [], tt))) ws) ⊛ raw ((c (ν₀ ∷ [], (ν₁ ∷ [], tt)) (args (ν₀ ∷ [], (ν₁ ∷ [], tt)))).ensures (g (ν₀ ∷ [], (ν₁ ∷ [], tt))) r (at_exit (shr_shr_ended R₀ R₁ Q ss ks) (ν₀ ∷ [], (ν₁ ∷ [], tt)) (args (ν₀ ∷ [], (ν₁ ∷ [], tt))) ws)))) (id⊢ 𝓤 _) $ pick t (λ ws. split t $ move t (1 ∷ []) $
      use1 𝓛 (raw (fact 𝓤 (ψ r))) (ens (ν₀ ∷ [], (ν₁ ∷ [], tt)) r ws) $ heard t (ψ r) (λ e.
      fsplit t $ drop t $ fsplit t $ drop t $ drop t $ split t $ move t (1 ∷ []) $ peeks t Q (Is Q) (shows 𝓛 Q) r (u ∷ []) (λ is. drop t $ split t $ move t (1 ∷ []) $ split t $ move t (1 ∷ []) $ drop t $
      move t (1 ∷ 3 ∷ []) $ back_view t tt R₀ b₀ o₀ γ₀ ys₀ n₀ en₀ ν₀ room₀ (move t (2 ∷ 4 ∷ []) $ back_view t tt R₁ b₁ o₁ γ₁ ys₁ n₁ en₁ ν₁ room₁ (move t (4 ∷ []) $ drop t $ move t (2 ∷ 3 ∷ 0 ∷ 1 ∷ []) $ k u r e is)))))))))
    where
      args : (κs : Lfts 2) → Args (shr_shr_ended R₀ R₁ Q ss ks).signature κs
      args κs = (seen b₀ o₀ ys₀, (seen b₁ o₁ ys₁, a κs))

      y : (κs : Lfts 2) → (contract_of 𝓛 (shr_shr_ended R₀ R₁ Q ss ks) c).Ghost
      y κs = ((κs, (full_share, (full_share, tt)), tt, (seen b₀ o₀ ys₀, (seen b₁ o₁ ys₁, a κs)), (slice_val (b₀, o₀) n₀ ∷ [], (slice_val (b₁, o₁) n₁ ∷ [], vss κs))), g κs)

      pre : (κs : Lfts 2) → SProp 𝓤
      pre κs = (contract_of 𝓛 (shr_shr_ended R₀ R₁ Q ss ks) c).pre (y κs)

      goes : (κs : Lfts 2) → ent 𝓤 (sem 𝓛 (fsep (flft κs.0 full_share) (fsep (flft κs.1.0 full_share) (fsep ((ShrSlice (named 0) κs.0 R₀).own_val (seen b₀ o₀ ys₀) (slice_val (b₀, o₀) n₀ ∷ [])) ((ShrSlice (named 0) κs.1.0 R₁).own_val (seen b₁ o₁ ys₁) (slice_val (b₁, o₁) n₁ ∷ [])))))) (pre κs)
      goes κs =
          qed 𝓛 (‵ (fsep (flft κs.0 full_share) (fsep (flft κs.1.0 full_share) (fsep ((ShrSlice (named 0) κs.0 R₀).own_val (seen b₀ o₀ ys₀) (slice_val (b₀, o₀) n₀ ∷ [])) ((ShrSlice (named 0) κs.1.0 R₁).own_val (seen b₁ o₁ ys₁) (slice_val (b₁, o₁) n₁ ∷ []))))) ∷ []) ∵ fsplit ! $ move ! (1 ∷ []) $ fsplit ! $ move ! (1 ∷ []) $ fsplit ! $
          use0 𝓛 (raw ((c κs (seen b₀ o₀ ys₀, (seen b₁ o₁ ys₁, a κs))).requires (g κs))) (req κs) $ use0 𝓛 (‵ (owns (types_at ss κs) (a κs) (vss κs))) (own κs) $ move ! (3 ∷ 0 ∷ []) $ fjoin ! $ move ! (2 ∷ 0 ∷ []) $ fjoin ! $ nothing ! $ move ! (3 ∷ 0 ∷ []) $ join ! $ move ! (3 ∷ 0 ∷ []) $ join ! $ join ! $ frame ! $ done !

  pub calls_mut_mut_mut_last : K → FmC 𝓤 H 𝓛.laws C → (R₀ R₁ R₂ Q : RattleType) (ss : List (Slot 3)) (ks : Kepts ss) (c : Clauses 𝓤 (mut_mut_mut_ended R₀ R₁ R₂ Q ss ks)) → Triple 𝓤 (C f) (contract_of 𝓛 (mut_mut_mut_ended R₀ R₁ R₂ Q ss ks) c)
      → {κ₀ : Lft} {q₀ : Share} (b₀ o₀ : ℕ) (γ₀ : GName) (ys₀ : List R₀.Denot) (n₀ : ℕ) → length ys₀ ≡ n₀
      → {κ₁ : Lft} {q₁ : Share} (b₁ o₁ : ℕ) (γ₁ : GName) (ys₁ : List R₁.Denot) (n₁ : ℕ) → length ys₁ ≡ n₁
      → {κ₂ : Lft} {q₂ : Share} (b₂ o₂ : ℕ) (γ₂ : GName) (ys₂ : List R₂.Denot) (n₂ : ℕ) → length ys₂ ≡ n₂
      → (a : (κs : Lfts 3) → Denots (types_at ss κs)) (vss : (κs : Lfts 3) → Valss (types_at ss κs)) → ((κs : Lfts 3) → ent 𝓤 (emp 𝓤) (sem 𝓛 (owns (types_at ss κs) (a κs) (vss κs))))
      → (g : (κs : Lfts 3) (δ₀ δ₁ δ₂ : GName) → (c κs (ref b₀ o₀ δ₀ ys₀, (ref b₁ o₁ δ₁ ys₁, (ref b₂ o₂ δ₂ ys₂, a κs)))).ghost) → ((κs : Lfts 3) (δ₀ δ₁ δ₂ : GName) → ent 𝓤 (emp 𝓤) ((c κs (ref b₀ o₀ δ₀ ys₀, (ref b₁ o₁ δ₁ ys₁, (ref b₂ o₂ δ₂ ys₂, a κs)))).requires (g κs δ₀ δ₁ δ₂)))
      → (ψ : Q.Denot → List R₀.Denot → List R₁.Denot → List R₂.Denot → Type 0) → ((κs : Lfts 3) (δ₀ δ₁ δ₂ : GName) (r : Q.Denot) (ws : Lasts (mut_mut_mut_ended R₀ R₁ R₂ Q ss ks) κs (ref b₀ o₀ δ₀ ys₀, (ref b₁ o₁ δ₁ ys₁, (ref b₂ o₂ δ₂ ys₂, a κs)))) → ent 𝓤 ((c κs (ref b₀ o₀ δ₀ ys₀, (ref b₁ o₁ δ₁ ys₁, (ref b₂ o₂ δ₂ ys₂, a κs)))).ensures (g κs δ₀ δ₁ δ₂) r (at_exit (mut_mut_mut_ended R₀ R₁ R₂ Q ss ks) κs (ref b₀ o₀ δ₀ ys₀, (ref b₁ o₁ δ₁ ys₁, (ref b₂ o₂ δ₂ ys₂, a κs))) ws)) (fact 𝓤 (ψ r ws.0 ws.1.0 ws.1.1.0)))
      → ((κs : Lfts 3) (δ₀ δ₁ δ₂ : GName) → Opds K 𝓛 (raw ((contract_of 𝓛 (mut_mut_mut_ended R₀ R₁ R₂ Q ss ks) c).pre ((κs, (full_share, (full_share, (full_share, tt))), tt, (ref b₀ o₀ δ₀ ys₀, (ref b₁ o₁ δ₁ ys₁, (ref b₂ o₂ δ₂ ys₂, a κs))), (slice_val (b₀, o₀) n₀ ∷ [], (slice_val (b₁, o₁) n₁ ∷ [], (slice_val (b₂, o₂) n₂ ∷ [], vss κs)))), g κs δ₀ δ₁ δ₂)) ∷ ‵ ftrue ∷ ‵ ftrue ∷ ‵ (LentAgain R₀ κ₀ κs.0 q₀ γ₀ b₀ o₀ δ₀ ys₀) ∷ ‵ (LentAgain R₁ κ₁ κs.1.0 q₁ γ₁ b₁ o₁ δ₁ ys₁) ∷ ‵ (LentAgain R₂ κ₂ κs.1.1.0 q₂ γ₂ b₂ o₂ δ₂ ys₂) ∷ Γ) E xs (slice_val (b₀, o₀) n₀ ∷ slice_val (b₁, o₁) n₁ ∷ slice_val (b₂, o₂) n₂ ∷ flat (types_at ss κs) (vss κs)))
      → ((u : Val) (r : Q.Denot) (zs₀ : List R₀.Denot) (zs₁ : List R₁.Denot) (zs₂ : List R₂.Denot) → length zs₀ ≡ n₀ → length zs₁ ≡ n₁ → length zs₂ ≡ n₂ → ψ r zs₀ zs₁ zs₂ → Is Q r (u ∷ []) → Seq K 𝓛 (‵ (flft κ₀ q₀) ∷ ‵ ((MutSlice (named 0) κ₀ R₀).own_val (ref b₀ o₀ γ₀ zs₀) (slice_val (b₀, o₀) n₀ ∷ [])) ∷ ‵ (flft κ₁ q₁) ∷ ‵ ((MutSlice (named 0) κ₁ R₁).own_val (ref b₁ o₁ γ₁ zs₁) (slice_val (b₁, o₁) n₁ ∷ [])) ∷ ‵ (flft κ₂ q₂) ∷ ‵ ((MutSlice (named 0) κ₂ R₂).own_val (ref b₂ o₂ γ₂ zs₂) (slice_val (b₂, o₂) n₂ ∷ [])) ∷ Γ) (settles E d u p))
      → Seq K 𝓛 (‵ (flft κ₀ q₀) ∷ ‵ ((MutSlice (named 0) κ₀ R₀).own_val (ref b₀ o₀ γ₀ ys₀) (slice_val (b₀, o₀) n₀ ∷ [])) ∷ ‵ (flft κ₁ q₁) ∷ ‵ ((MutSlice (named 0) κ₁ R₁).own_val (ref b₁ o₁ γ₁ ys₁) (slice_val (b₁, o₁) n₁ ∷ [])) ∷ ‵ (flft κ₂ q₂) ∷ ‵ ((MutSlice (named 0) κ₂ R₂).own_val (ref b₂ o₂ γ₂ ys₂) (slice_val (b₂, o₂) n₂ ∷ [])) ∷ Γ) (runs C Λ E (call f xs d) p)
  calls_mut_mut_mut_last t fm R₀ R₁ R₂ Q ss ks c known {κ₀} {q₀} b₀ o₀ γ₀ ys₀ n₀ en₀ {κ₁} {q₁} b₁ o₁ γ₁ ys₁ n₁ en₁ {κ₂} {q₂} b₂ o₂ γ₂ ys₂ n₂ en₂ a vss own g req ψ ens os k =
      lend_mut t tt R₀ b₀ o₀ γ₀ ys₀ n₀ en₀ (λ ν₀ δ₀ room₀.
      move t (3 ∷ 4 ∷ []) $ lend_mut t tt R₁ b₁ o₁ γ₁ ys₁ n₁ en₁ (λ ν₁ δ₁ room₁.
      move t (6 ∷ 7 ∷ []) $ lend_mut t tt R₂ b₂ o₂ γ₂ ys₂ n₂ en₂ (λ ν₂ δ₂ room₂.
      move t (1 ∷ 4 ∷ 7 ∷ 0 ∷ 3 ∷ 6 ∷ []) $ move t (1 ∷ 0 ∷ []) $ fjoin t $ move t (1 ∷ 0 ∷ []) $ fjoin t $ move t (1 ∷ 0 ∷ []) $ fjoin t $ move t (1 ∷ 0 ∷ []) $ fjoin t $ move t (1 ∷ 0 ∷ []) $ fjoin t $ use1 𝓛 (raw (pre (ν₀ ∷ [], (ν₁ ∷ [], (ν₂ ∷ [], tt))) δ₀ δ₁ δ₂)) (goes (ν₀ ∷ [], (ν₁ ∷ [], (ν₂ ∷ [], tt))) δ₀ δ₁ δ₂) $ nothing t $ nothing t $ move t (2 ∷ 1 ∷ 0 ∷ 5 ∷ 4 ∷ 3 ∷ []) $
      calls_at_last t fm (contract_of 𝓛 (mut_mut_mut_ended R₀ R₁ R₂ Q ss ks) c) known (y (ν₀ ∷ [], (ν₁ ∷ [], (ν₂ ∷ [], tt))) δ₀ δ₁ δ₂) (os (ν₀ ∷ [], (ν₁ ∷ [], (ν₂ ∷ [], tt))) δ₀ δ₁ δ₂) (λ u.
      use1 𝓛 (later (some (λ (r : Q.Denot). ((‵ (flft (ν₀ ∷ []) full_share) ⊛ (‵ (flft (ν₁ ∷ []) full_share) ⊛ (‵ (flft (ν₂ ∷ []) full_share) ⊛ ‵ ftrue))) ⊛ ‵ (Q.own_val r (u ∷ []))) ⊛ raw (ensured 𝓛 (mut_mut_mut_ended R₀ R₁ R₂ Q ss ks) c (ν₀ ∷ [], (ν₁ ∷ [], (ν₂ ∷ [], tt))) (args (ν₀ ∷ [], (ν₁ ∷ [], (ν₂ ∷ [], tt))) δ₀ δ₁ δ₂) (g (ν₀ ∷ [], (ν₁ ∷ [], (ν₂ ∷ [], tt))) δ₀ δ₁ δ₂) r)))) (id⊢ 𝓤 _) $ await t tt $ pick t (λ r. split t $ move t (1 ∷ []) $
      use1 𝓛 (some (λ (ws : Lasts (mut_mut_mut_ended R₀ R₁ R₂ Q ss ks) (ν₀ ∷ [], (ν₁ ∷ [], (ν₂ ∷ [], tt))) (args (ν₀ ∷ [], (ν₁ ∷ [], (ν₂ ∷ [], tt))) δ₀ δ₁ δ₂)). ‵ (lasts (mut_mut_mut_ended R₀ R₁ R₂ Q ss ks) (ν₀ ∷ [], (ν₁ ∷ [], (ν₂ ∷ [], tt))) (args (ν₀ ∷ [], (ν₁ ∷ [], (ν₂ ∷ [], tt))) δ₀ δ₁ δ₂) ws) ⊛ raw ((c (ν₀ ∷ [], (ν₁ ∷ [], (ν₂ ∷ [], tt))) (args (ν₀ ∷ [], (ν₁ ∷ [], (ν₂ ∷ [], tt))) δ₀ δ₁ δ₂)).ensures (g (ν₀ ∷ [], (ν₁ ∷ [], (ν₂ ∷ [], tt))) δ₀ δ₁ δ₂) r (at_exit (mut_mut_mut_ended R₀ R₁ R₂ Q ss ks) (ν₀ ∷ [], (ν₁ ∷ [], (ν₂ ∷ [], tt))) (args (ν₀ ∷ [], (ν₁ ∷ [], (ν₂ ∷ [], tt))) δ₀ δ₁ δ₂) ws)))) (id⊢ 𝓤 _) $ pick t (λ ws. split t $ move t (1 ∷ []) $
      use1 𝓛 (raw (fact 𝓤 (ψ r ws.0 ws.1.0 ws.1.1.0))) (ens (ν₀ ∷ [], (ν₁ ∷ [], (ν₂ ∷ [], tt))) δ₀ δ₁ δ₂ r ws) $ heard t (ψ r ws.0 ws.1.0 ws.1.1.0) (λ e.
      fsplit t $ fsplit t $ fsplit t $ move t (1 ∷ []) $ feq_l t (λ l₀. move t (1 ∷ []) $ drop t $ move t (1 ∷ []) $ fsplit t $ fsplit t $ fsplit t $ move t (1 ∷ []) $ feq_l t (λ l₁. move t (1 ∷ []) $ drop t $ move t (1 ∷ []) $ fsplit t $ fsplit t $ fsplit t $ move t (1 ∷ []) $ feq_l t (λ l₂. move t (1 ∷ []) $ drop t $ move t (1 ∷ []) $ drop t $ move t (3 ∷ []) $ split t $ move t (1 ∷ []) $ peeks t Q (Is Q) (shows 𝓛 Q) r (u ∷ []) (λ is. drop t $ split t $ move t (1 ∷ []) $ split t $ move t (1 ∷ []) $ split t $ move t (1 ∷ []) $ drop t $
      move t (2 ∷ 8 ∷ 5 ∷ []) $ back_mut t tt R₀ b₀ o₀ γ₀ ys₀ n₀ en₀ ν₀ δ₀ room₀ ws.0 l₀ (move t (3 ∷ 8 ∷ 5 ∷ []) $ back_mut t tt R₁ b₁ o₁ γ₁ ys₁ n₁ en₁ ν₁ δ₁ room₁ ws.1.0 l₁ (move t (4 ∷ 8 ∷ 5 ∷ []) $ back_mut t tt R₂ b₂ o₂ γ₂ ys₂ n₂ en₂ ν₂ δ₂ room₂ ws.1.1.0 l₂ (move t (6 ∷ []) $ drop t $ move t (6 ∷ []) $ drop t $ move t (4 ∷ 5 ∷ 2 ∷ 3 ∷ 0 ∷ 1 ∷ []) $ k u r ws.0 ws.1.0 ws.1.1.0 (l₀ ∙ en₀) (l₁ ∙ en₁) (l₂ ∙ en₂) e is))))))))))))))
    where
      args : (κs : Lfts 3) (δ₀ δ₁ δ₂ : GName) → Args (mut_mut_mut_ended R₀ R₁ R₂ Q ss ks).signature κs
      args κs δ₀ δ₁ δ₂ = (ref b₀ o₀ δ₀ ys₀, (ref b₁ o₁ δ₁ ys₁, (ref b₂ o₂ δ₂ ys₂, a κs)))

      y : (κs : Lfts 3) (δ₀ δ₁ δ₂ : GName) → (contract_of 𝓛 (mut_mut_mut_ended R₀ R₁ R₂ Q ss ks) c).Ghost
      y κs δ₀ δ₁ δ₂ = ((κs, (full_share, (full_share, (full_share, tt))), tt, (ref b₀ o₀ δ₀ ys₀, (ref b₁ o₁ δ₁ ys₁, (ref b₂ o₂ δ₂ ys₂, a κs))), (slice_val (b₀, o₀) n₀ ∷ [], (slice_val (b₁, o₁) n₁ ∷ [], (slice_val (b₂, o₂) n₂ ∷ [], vss κs)))), g κs δ₀ δ₁ δ₂)

      pre : (κs : Lfts 3) (δ₀ δ₁ δ₂ : GName) → SProp 𝓤
      pre κs δ₀ δ₁ δ₂ = (contract_of 𝓛 (mut_mut_mut_ended R₀ R₁ R₂ Q ss ks) c).pre (y κs δ₀ δ₁ δ₂)

      goes : (κs : Lfts 3) (δ₀ δ₁ δ₂ : GName) → ent 𝓤 (sem 𝓛 (fsep (flft κs.0 full_share) (fsep (flft κs.1.0 full_share) (fsep (flft κs.1.1.0 full_share) (fsep ((MutSlice (named 0) κs.0 R₀).own_val (ref b₀ o₀ δ₀ ys₀) (slice_val (b₀, o₀) n₀ ∷ [])) (fsep ((MutSlice (named 0) κs.1.0 R₁).own_val (ref b₁ o₁ δ₁ ys₁) (slice_val (b₁, o₁) n₁ ∷ [])) ((MutSlice (named 0) κs.1.1.0 R₂).own_val (ref b₂ o₂ δ₂ ys₂) (slice_val (b₂, o₂) n₂ ∷ [])))))))) (pre κs δ₀ δ₁ δ₂)
      goes κs δ₀ δ₁ δ₂ =
          qed 𝓛 (‵ (fsep (flft κs.0 full_share) (fsep (flft κs.1.0 full_share) (fsep (flft κs.1.1.0 full_share) (fsep ((MutSlice (named 0) κs.0 R₀).own_val (ref b₀ o₀ δ₀ ys₀) (slice_val (b₀, o₀) n₀ ∷ [])) (fsep ((MutSlice (named 0) κs.1.0 R₁).own_val (ref b₁ o₁ δ₁ ys₁) (slice_val (b₁, o₁) n₁ ∷ [])) ((MutSlice (named 0) κs.1.1.0 R₂).own_val (ref b₂ o₂ δ₂ ys₂) (slice_val (b₂, o₂) n₂ ∷ []))))))) ∷ []) ∵ fsplit ! $ move ! (1 ∷ []) $ fsplit ! $ move ! (1 ∷ []) $ fsplit ! $ move ! (1 ∷ []) $ fsplit ! $ move ! (1 ∷ []) $ fsplit ! $
          use0 𝓛 (raw ((c κs (ref b₀ o₀ δ₀ ys₀, (ref b₁ o₁ δ₁ ys₁, (ref b₂ o₂ δ₂ ys₂, a κs)))).requires (g κs δ₀ δ₁ δ₂))) (req κs δ₀ δ₁ δ₂) $ use0 𝓛 (‵ (owns (types_at ss κs) (a κs) (vss κs))) (own κs) $ move ! (3 ∷ 0 ∷ []) $ fjoin ! $ move ! (2 ∷ 0 ∷ []) $ fjoin ! $ move ! (2 ∷ 0 ∷ []) $ fjoin ! $ nothing ! $ move ! (3 ∷ 0 ∷ []) $ join ! $ move ! (3 ∷ 0 ∷ []) $ join ! $ move ! (3 ∷ 0 ∷ []) $ join ! $ join ! $ frame ! $ done !

  pub calls_mut_mut_shr_last : K → FmC 𝓤 H 𝓛.laws C → (R₀ R₁ R₂ Q : RattleType) (ss : List (Slot 3)) (ks : Kepts ss) (c : Clauses 𝓤 (mut_mut_shr_ended R₀ R₁ R₂ Q ss ks)) → Triple 𝓤 (C f) (contract_of 𝓛 (mut_mut_shr_ended R₀ R₁ R₂ Q ss ks) c)
      → {κ₀ : Lft} {q₀ : Share} (b₀ o₀ : ℕ) (γ₀ : GName) (ys₀ : List R₀.Denot) (n₀ : ℕ) → length ys₀ ≡ n₀
      → {κ₁ : Lft} {q₁ : Share} (b₁ o₁ : ℕ) (γ₁ : GName) (ys₁ : List R₁.Denot) (n₁ : ℕ) → length ys₁ ≡ n₁
      → {κ₂ : Lft} {q₂ : Share} (b₂ o₂ : ℕ) (ys₂ : List R₂.Denot) (n₂ : ℕ) → length ys₂ ≡ n₂ → RowLaws R₂
      → (a : (κs : Lfts 3) → Denots (types_at ss κs)) (vss : (κs : Lfts 3) → Valss (types_at ss κs)) → ((κs : Lfts 3) → ent 𝓤 (emp 𝓤) (sem 𝓛 (owns (types_at ss κs) (a κs) (vss κs))))
      → (g : (κs : Lfts 3) (δ₀ δ₁ : GName) → (c κs (ref b₀ o₀ δ₀ ys₀, (ref b₁ o₁ δ₁ ys₁, (seen b₂ o₂ ys₂, a κs)))).ghost) → ((κs : Lfts 3) (δ₀ δ₁ : GName) → ent 𝓤 (emp 𝓤) ((c κs (ref b₀ o₀ δ₀ ys₀, (ref b₁ o₁ δ₁ ys₁, (seen b₂ o₂ ys₂, a κs)))).requires (g κs δ₀ δ₁)))
      → (ψ : Q.Denot → List R₀.Denot → List R₁.Denot → Type 0) → ((κs : Lfts 3) (δ₀ δ₁ : GName) (r : Q.Denot) (ws : Lasts (mut_mut_shr_ended R₀ R₁ R₂ Q ss ks) κs (ref b₀ o₀ δ₀ ys₀, (ref b₁ o₁ δ₁ ys₁, (seen b₂ o₂ ys₂, a κs)))) → ent 𝓤 ((c κs (ref b₀ o₀ δ₀ ys₀, (ref b₁ o₁ δ₁ ys₁, (seen b₂ o₂ ys₂, a κs)))).ensures (g κs δ₀ δ₁) r (at_exit (mut_mut_shr_ended R₀ R₁ R₂ Q ss ks) κs (ref b₀ o₀ δ₀ ys₀, (ref b₁ o₁ δ₁ ys₁, (seen b₂ o₂ ys₂, a κs))) ws)) (fact 𝓤 (ψ r ws.0 ws.1.0)))
      → ((κs : Lfts 3) (δ₀ δ₁ : GName) → Opds K 𝓛 (raw ((contract_of 𝓛 (mut_mut_shr_ended R₀ R₁ R₂ Q ss ks) c).pre ((κs, (full_share, (full_share, (q₂, tt))), tt, (ref b₀ o₀ δ₀ ys₀, (ref b₁ o₁ δ₁ ys₁, (seen b₂ o₂ ys₂, a κs))), (slice_val (b₀, o₀) n₀ ∷ [], (slice_val (b₁, o₁) n₁ ∷ [], (slice_val (b₂, o₂) n₂ ∷ [], vss κs)))), g κs δ₀ δ₁)) ∷ ‵ ftrue ∷ ‵ ftrue ∷ ‵ (LentAgain R₀ κ₀ κs.0 q₀ γ₀ b₀ o₀ δ₀ ys₀) ∷ ‵ (LentAgain R₁ κ₁ κs.1.0 q₁ γ₁ b₁ o₁ δ₁ ys₁) ∷ ‵ ((ShrSlice (named 0) κ₂ R₂).own_val (seen b₂ o₂ ys₂) (slice_val (b₂, o₂) n₂ ∷ [])) ∷ Γ) E xs (slice_val (b₀, o₀) n₀ ∷ slice_val (b₁, o₁) n₁ ∷ slice_val (b₂, o₂) n₂ ∷ flat (types_at ss κs) (vss κs)))
      → ((u : Val) (r : Q.Denot) (zs₀ : List R₀.Denot) (zs₁ : List R₁.Denot) → length zs₀ ≡ n₀ → length zs₁ ≡ n₁ → ψ r zs₀ zs₁ → Is Q r (u ∷ []) → Seq K 𝓛 (‵ (flft κ₀ q₀) ∷ ‵ ((MutSlice (named 0) κ₀ R₀).own_val (ref b₀ o₀ γ₀ zs₀) (slice_val (b₀, o₀) n₀ ∷ [])) ∷ ‵ (flft κ₁ q₁) ∷ ‵ ((MutSlice (named 0) κ₁ R₁).own_val (ref b₁ o₁ γ₁ zs₁) (slice_val (b₁, o₁) n₁ ∷ [])) ∷ ‵ (flft κ₂ q₂) ∷ ‵ ((ShrSlice (named 0) κ₂ R₂).own_val (seen b₂ o₂ ys₂) (slice_val (b₂, o₂) n₂ ∷ [])) ∷ Γ) (settles E d u p))
      → Seq K 𝓛 (‵ (flft κ₀ q₀) ∷ ‵ ((MutSlice (named 0) κ₀ R₀).own_val (ref b₀ o₀ γ₀ ys₀) (slice_val (b₀, o₀) n₀ ∷ [])) ∷ ‵ (flft κ₁ q₁) ∷ ‵ ((MutSlice (named 0) κ₁ R₁).own_val (ref b₁ o₁ γ₁ ys₁) (slice_val (b₁, o₁) n₁ ∷ [])) ∷ ‵ (flft κ₂ q₂) ∷ ‵ ((ShrSlice (named 0) κ₂ R₂).own_val (seen b₂ o₂ ys₂) (slice_val (b₂, o₂) n₂ ∷ [])) ∷ Γ) (runs C Λ E (call f xs d) p)
  calls_mut_mut_shr_last t fm R₀ R₁ R₂ Q ss ks c known {κ₀} {q₀} b₀ o₀ γ₀ ys₀ n₀ en₀ {κ₁} {q₁} b₁ o₁ γ₁ ys₁ n₁ en₁ {κ₂} {q₂} b₂ o₂ ys₂ n₂ en₂ laws₂ a vss own g req ψ ens os k =
      lend_mut t tt R₀ b₀ o₀ γ₀ ys₀ n₀ en₀ (λ ν₀ δ₀ room₀.
      move t (3 ∷ 4 ∷ []) $ lend_mut t tt R₁ b₁ o₁ γ₁ ys₁ n₁ en₁ (λ ν₁ δ₁ room₁.
      move t (6 ∷ 7 ∷ []) $ lend_shr t R₂ laws₂ (seen b₂ o₂ ys₂) (slice_val (b₂, o₂) n₂ ∷ []) (
      move t (1 ∷ 4 ∷ 7 ∷ 0 ∷ 3 ∷ 6 ∷ []) $ move t (1 ∷ 0 ∷ []) $ fjoin t $ move t (1 ∷ 0 ∷ []) $ fjoin t $ move t (1 ∷ 0 ∷ []) $ fjoin t $ move t (1 ∷ 0 ∷ []) $ fjoin t $ move t (1 ∷ 0 ∷ []) $ fjoin t $ use1 𝓛 (raw (pre (ν₀ ∷ [], (ν₁ ∷ [], (κ₂, tt))) δ₀ δ₁)) (goes (ν₀ ∷ [], (ν₁ ∷ [], (κ₂, tt))) δ₀ δ₁) $ nothing t $ nothing t $ move t (2 ∷ 1 ∷ 0 ∷ 5 ∷ 4 ∷ 3 ∷ []) $
      calls_at_last t fm (contract_of 𝓛 (mut_mut_shr_ended R₀ R₁ R₂ Q ss ks) c) known (y (ν₀ ∷ [], (ν₁ ∷ [], (κ₂, tt))) δ₀ δ₁) (os (ν₀ ∷ [], (ν₁ ∷ [], (κ₂, tt))) δ₀ δ₁) (λ u.
      use1 𝓛 (later (some (λ (r : Q.Denot). ((‵ (flft (ν₀ ∷ []) full_share) ⊛ (‵ (flft (ν₁ ∷ []) full_share) ⊛ (‵ (flft κ₂ q₂) ⊛ ‵ ftrue))) ⊛ ‵ (Q.own_val r (u ∷ []))) ⊛ raw (ensured 𝓛 (mut_mut_shr_ended R₀ R₁ R₂ Q ss ks) c (ν₀ ∷ [], (ν₁ ∷ [], (κ₂, tt))) (args (ν₀ ∷ [], (ν₁ ∷ [], (κ₂, tt))) δ₀ δ₁) (g (ν₀ ∷ [], (ν₁ ∷ [], (κ₂, tt))) δ₀ δ₁) r)))) (id⊢ 𝓤 _) $ await t tt $ pick t (λ r. split t $ move t (1 ∷ []) $
      use1 𝓛 (some (λ (ws : Lasts (mut_mut_shr_ended R₀ R₁ R₂ Q ss ks) (ν₀ ∷ [], (ν₁ ∷ [], (κ₂, tt))) (args (ν₀ ∷ [], (ν₁ ∷ [], (κ₂, tt))) δ₀ δ₁)). ‵ (lasts (mut_mut_shr_ended R₀ R₁ R₂ Q ss ks) (ν₀ ∷ [], (ν₁ ∷ [], (κ₂, tt))) (args (ν₀ ∷ [], (ν₁ ∷ [], (κ₂, tt))) δ₀ δ₁) ws) ⊛ raw ((c (ν₀ ∷ [], (ν₁ ∷ [], (κ₂, tt))) (args (ν₀ ∷ [], (ν₁ ∷ [], (κ₂, tt))) δ₀ δ₁)).ensures (g (ν₀ ∷ [], (ν₁ ∷ [], (κ₂, tt))) δ₀ δ₁) r (at_exit (mut_mut_shr_ended R₀ R₁ R₂ Q ss ks) (ν₀ ∷ [], (ν₁ ∷ [], (κ₂, tt))) (args (ν₀ ∷ [], (ν₁ ∷ [], (κ₂, tt))) δ₀ δ₁) ws)))) (id⊢ 𝓤 _) $ pick t (λ ws. split t $ move t (1 ∷ []) $
      use1 𝓛 (raw (fact 𝓤 (ψ r ws.0 ws.1.0))) (ens (ν₀ ∷ [], (ν₁ ∷ [], (κ₂, tt))) δ₀ δ₁ r ws) $ heard t (ψ r ws.0 ws.1.0) (λ e.
      fsplit t $ fsplit t $ fsplit t $ move t (1 ∷ []) $ feq_l t (λ l₀. move t (1 ∷ []) $ drop t $ move t (1 ∷ []) $ fsplit t $ fsplit t $ fsplit t $ move t (1 ∷ []) $ feq_l t (λ l₁. move t (1 ∷ []) $ drop t $ move t (1 ∷ []) $ fsplit t $ drop t $ drop t $ move t (2 ∷ []) $ split t $ move t (1 ∷ []) $ peeks t Q (Is Q) (shows 𝓛 Q) r (u ∷ []) (λ is. drop t $ split t $ move t (1 ∷ []) $ split t $ move t (1 ∷ []) $ split t $ move t (1 ∷ []) $ drop t $
      move t (2 ∷ 7 ∷ 4 ∷ []) $ back_mut t tt R₀ b₀ o₀ γ₀ ys₀ n₀ en₀ ν₀ δ₀ room₀ ws.0 l₀ (move t (3 ∷ 7 ∷ 4 ∷ []) $ back_mut t tt R₁ b₁ o₁ γ₁ ys₁ n₁ en₁ ν₁ δ₁ room₁ ws.1.0 l₁ (move t (5 ∷ []) $ drop t $ move t (5 ∷ []) $ drop t $ move t (2 ∷ 3 ∷ 0 ∷ 1 ∷ 4 ∷ 5 ∷ []) $ k u r ws.0 ws.1.0 (l₀ ∙ en₀) (l₁ ∙ en₁) e is))))))))))))
    where
      args : (κs : Lfts 3) (δ₀ δ₁ : GName) → Args (mut_mut_shr_ended R₀ R₁ R₂ Q ss ks).signature κs
      args κs δ₀ δ₁ = (ref b₀ o₀ δ₀ ys₀, (ref b₁ o₁ δ₁ ys₁, (seen b₂ o₂ ys₂, a κs)))

      y : (κs : Lfts 3) (δ₀ δ₁ : GName) → (contract_of 𝓛 (mut_mut_shr_ended R₀ R₁ R₂ Q ss ks) c).Ghost
      y κs δ₀ δ₁ = ((κs, (full_share, (full_share, (q₂, tt))), tt, (ref b₀ o₀ δ₀ ys₀, (ref b₁ o₁ δ₁ ys₁, (seen b₂ o₂ ys₂, a κs))), (slice_val (b₀, o₀) n₀ ∷ [], (slice_val (b₁, o₁) n₁ ∷ [], (slice_val (b₂, o₂) n₂ ∷ [], vss κs)))), g κs δ₀ δ₁)

      pre : (κs : Lfts 3) (δ₀ δ₁ : GName) → SProp 𝓤
      pre κs δ₀ δ₁ = (contract_of 𝓛 (mut_mut_shr_ended R₀ R₁ R₂ Q ss ks) c).pre (y κs δ₀ δ₁)

      goes : (κs : Lfts 3) (δ₀ δ₁ : GName) → ent 𝓤 (sem 𝓛 (fsep (flft κs.0 full_share) (fsep (flft κs.1.0 full_share) (fsep (flft κs.1.1.0 q₂) (fsep ((MutSlice (named 0) κs.0 R₀).own_val (ref b₀ o₀ δ₀ ys₀) (slice_val (b₀, o₀) n₀ ∷ [])) (fsep ((MutSlice (named 0) κs.1.0 R₁).own_val (ref b₁ o₁ δ₁ ys₁) (slice_val (b₁, o₁) n₁ ∷ [])) ((ShrSlice (named 0) κs.1.1.0 R₂).own_val (seen b₂ o₂ ys₂) (slice_val (b₂, o₂) n₂ ∷ [])))))))) (pre κs δ₀ δ₁)
      goes κs δ₀ δ₁ =
          qed 𝓛 (‵ (fsep (flft κs.0 full_share) (fsep (flft κs.1.0 full_share) (fsep (flft κs.1.1.0 q₂) (fsep ((MutSlice (named 0) κs.0 R₀).own_val (ref b₀ o₀ δ₀ ys₀) (slice_val (b₀, o₀) n₀ ∷ [])) (fsep ((MutSlice (named 0) κs.1.0 R₁).own_val (ref b₁ o₁ δ₁ ys₁) (slice_val (b₁, o₁) n₁ ∷ [])) ((ShrSlice (named 0) κs.1.1.0 R₂).own_val (seen b₂ o₂ ys₂) (slice_val (b₂, o₂) n₂ ∷ []))))))) ∷ []) ∵ fsplit ! $ move ! (1 ∷ []) $ fsplit ! $ move ! (1 ∷ []) $ fsplit ! $ move ! (1 ∷ []) $ fsplit ! $ move ! (1 ∷ []) $ fsplit ! $
          use0 𝓛 (raw ((c κs (ref b₀ o₀ δ₀ ys₀, (ref b₁ o₁ δ₁ ys₁, (seen b₂ o₂ ys₂, a κs)))).requires (g κs δ₀ δ₁))) (req κs δ₀ δ₁) $ use0 𝓛 (‵ (owns (types_at ss κs) (a κs) (vss κs))) (own κs) $ move ! (3 ∷ 0 ∷ []) $ fjoin ! $ move ! (2 ∷ 0 ∷ []) $ fjoin ! $ move ! (2 ∷ 0 ∷ []) $ fjoin ! $ nothing ! $ move ! (3 ∷ 0 ∷ []) $ join ! $ move ! (3 ∷ 0 ∷ []) $ join ! $ move ! (3 ∷ 0 ∷ []) $ join ! $ join ! $ frame ! $ done !

  pub calls_shr_shr_mut_last : K → FmC 𝓤 H 𝓛.laws C → (R₀ R₁ R₂ Q : RattleType) (ss : List (Slot 3)) (ks : Kepts ss) (c : Clauses 𝓤 (shr_shr_mut_ended R₀ R₁ R₂ Q ss ks)) → Triple 𝓤 (C f) (contract_of 𝓛 (shr_shr_mut_ended R₀ R₁ R₂ Q ss ks) c)
      → {κ₀ : Lft} {q₀ : Share} (b₀ o₀ : ℕ) (ys₀ : List R₀.Denot) (n₀ : ℕ) → length ys₀ ≡ n₀ → RowLaws R₀
      → {κ₁ : Lft} {q₁ : Share} (b₁ o₁ : ℕ) (ys₁ : List R₁.Denot) (n₁ : ℕ) → length ys₁ ≡ n₁ → RowLaws R₁
      → {κ₂ : Lft} {q₂ : Share} (b₂ o₂ : ℕ) (γ₂ : GName) (ys₂ : List R₂.Denot) (n₂ : ℕ) → length ys₂ ≡ n₂
      → (a : (κs : Lfts 3) → Denots (types_at ss κs)) (vss : (κs : Lfts 3) → Valss (types_at ss κs)) → ((κs : Lfts 3) → ent 𝓤 (emp 𝓤) (sem 𝓛 (owns (types_at ss κs) (a κs) (vss κs))))
      → (g : (κs : Lfts 3) (δ₂ : GName) → (c κs (seen b₀ o₀ ys₀, (seen b₁ o₁ ys₁, (ref b₂ o₂ δ₂ ys₂, a κs)))).ghost) → ((κs : Lfts 3) (δ₂ : GName) → ent 𝓤 (emp 𝓤) ((c κs (seen b₀ o₀ ys₀, (seen b₁ o₁ ys₁, (ref b₂ o₂ δ₂ ys₂, a κs)))).requires (g κs δ₂)))
      → (ψ : Q.Denot → List R₂.Denot → Type 0) → ((κs : Lfts 3) (δ₂ : GName) (r : Q.Denot) (ws : Lasts (shr_shr_mut_ended R₀ R₁ R₂ Q ss ks) κs (seen b₀ o₀ ys₀, (seen b₁ o₁ ys₁, (ref b₂ o₂ δ₂ ys₂, a κs)))) → ent 𝓤 ((c κs (seen b₀ o₀ ys₀, (seen b₁ o₁ ys₁, (ref b₂ o₂ δ₂ ys₂, a κs)))).ensures (g κs δ₂) r (at_exit (shr_shr_mut_ended R₀ R₁ R₂ Q ss ks) κs (seen b₀ o₀ ys₀, (seen b₁ o₁ ys₁, (ref b₂ o₂ δ₂ ys₂, a κs))) ws)) (fact 𝓤 (ψ r ws.1.1.0)))
      → ((κs : Lfts 3) (δ₂ : GName) → Opds K 𝓛 (raw ((contract_of 𝓛 (shr_shr_mut_ended R₀ R₁ R₂ Q ss ks) c).pre ((κs, (q₀, (q₁, (full_share, tt))), tt, (seen b₀ o₀ ys₀, (seen b₁ o₁ ys₁, (ref b₂ o₂ δ₂ ys₂, a κs))), (slice_val (b₀, o₀) n₀ ∷ [], (slice_val (b₁, o₁) n₁ ∷ [], (slice_val (b₂, o₂) n₂ ∷ [], vss κs)))), g κs δ₂)) ∷ ‵ ftrue ∷ ‵ ftrue ∷ ‵ ((ShrSlice (named 0) κ₀ R₀).own_val (seen b₀ o₀ ys₀) (slice_val (b₀, o₀) n₀ ∷ [])) ∷ ‵ ((ShrSlice (named 0) κ₁ R₁).own_val (seen b₁ o₁ ys₁) (slice_val (b₁, o₁) n₁ ∷ [])) ∷ ‵ (LentAgain R₂ κ₂ κs.1.1.0 q₂ γ₂ b₂ o₂ δ₂ ys₂) ∷ Γ) E xs (slice_val (b₀, o₀) n₀ ∷ slice_val (b₁, o₁) n₁ ∷ slice_val (b₂, o₂) n₂ ∷ flat (types_at ss κs) (vss κs)))
      → ((u : Val) (r : Q.Denot) (zs₂ : List R₂.Denot) → length zs₂ ≡ n₂ → ψ r zs₂ → Is Q r (u ∷ []) → Seq K 𝓛 (‵ (flft κ₀ q₀) ∷ ‵ ((ShrSlice (named 0) κ₀ R₀).own_val (seen b₀ o₀ ys₀) (slice_val (b₀, o₀) n₀ ∷ [])) ∷ ‵ (flft κ₁ q₁) ∷ ‵ ((ShrSlice (named 0) κ₁ R₁).own_val (seen b₁ o₁ ys₁) (slice_val (b₁, o₁) n₁ ∷ [])) ∷ ‵ (flft κ₂ q₂) ∷ ‵ ((MutSlice (named 0) κ₂ R₂).own_val (ref b₂ o₂ γ₂ zs₂) (slice_val (b₂, o₂) n₂ ∷ [])) ∷ Γ) (settles E d u p))
      → Seq K 𝓛 (‵ (flft κ₀ q₀) ∷ ‵ ((ShrSlice (named 0) κ₀ R₀).own_val (seen b₀ o₀ ys₀) (slice_val (b₀, o₀) n₀ ∷ [])) ∷ ‵ (flft κ₁ q₁) ∷ ‵ ((ShrSlice (named 0) κ₁ R₁).own_val (seen b₁ o₁ ys₁) (slice_val (b₁, o₁) n₁ ∷ [])) ∷ ‵ (flft κ₂ q₂) ∷ ‵ ((MutSlice (named 0) κ₂ R₂).own_val (ref b₂ o₂ γ₂ ys₂) (slice_val (b₂, o₂) n₂ ∷ [])) ∷ Γ) (runs C Λ E (call f xs d) p)
  calls_shr_shr_mut_last t fm R₀ R₁ R₂ Q ss ks c known {κ₀} {q₀} b₀ o₀ ys₀ n₀ en₀ laws₀ {κ₁} {q₁} b₁ o₁ ys₁ n₁ en₁ laws₁ {κ₂} {q₂} b₂ o₂ γ₂ ys₂ n₂ en₂ a vss own g req ψ ens os k =
      lend_shr t R₀ laws₀ (seen b₀ o₀ ys₀) (slice_val (b₀, o₀) n₀ ∷ []) (
      move t (3 ∷ 4 ∷ []) $ lend_shr t R₁ laws₁ (seen b₁ o₁ ys₁) (slice_val (b₁, o₁) n₁ ∷ []) (
      move t (6 ∷ 7 ∷ []) $ lend_mut t tt R₂ b₂ o₂ γ₂ ys₂ n₂ en₂ (λ ν₂ δ₂ room₂.
      move t (1 ∷ 4 ∷ 7 ∷ 0 ∷ 3 ∷ 6 ∷ []) $ move t (1 ∷ 0 ∷ []) $ fjoin t $ move t (1 ∷ 0 ∷ []) $ fjoin t $ move t (1 ∷ 0 ∷ []) $ fjoin t $ move t (1 ∷ 0 ∷ []) $ fjoin t $ move t (1 ∷ 0 ∷ []) $ fjoin t $ use1 𝓛 (raw (pre (κ₀, (κ₁, (ν₂ ∷ [], tt))) δ₂)) (goes (κ₀, (κ₁, (ν₂ ∷ [], tt))) δ₂) $ nothing t $ nothing t $ move t (2 ∷ 1 ∷ 0 ∷ 5 ∷ 4 ∷ 3 ∷ []) $
      calls_at_last t fm (contract_of 𝓛 (shr_shr_mut_ended R₀ R₁ R₂ Q ss ks) c) known (y (κ₀, (κ₁, (ν₂ ∷ [], tt))) δ₂) (os (κ₀, (κ₁, (ν₂ ∷ [], tt))) δ₂) (λ u.
      use1 𝓛 (later (some (λ (r : Q.Denot). ((‵ (flft κ₀ q₀) ⊛ (‵ (flft κ₁ q₁) ⊛ (‵ (flft (ν₂ ∷ []) full_share) ⊛ ‵ ftrue))) ⊛ ‵ (Q.own_val r (u ∷ []))) ⊛ raw (ensured 𝓛 (shr_shr_mut_ended R₀ R₁ R₂ Q ss ks) c (κ₀, (κ₁, (ν₂ ∷ [], tt))) (args (κ₀, (κ₁, (ν₂ ∷ [], tt))) δ₂) (g (κ₀, (κ₁, (ν₂ ∷ [], tt))) δ₂) r)))) (id⊢ 𝓤 _) $ await t tt $ pick t (λ r. split t $ move t (1 ∷ []) $
      use1 𝓛 (some (λ (ws : Lasts (shr_shr_mut_ended R₀ R₁ R₂ Q ss ks) (κ₀, (κ₁, (ν₂ ∷ [], tt))) (args (κ₀, (κ₁, (ν₂ ∷ [], tt))) δ₂)). ‵ (lasts (shr_shr_mut_ended R₀ R₁ R₂ Q ss ks) (κ₀, (κ₁, (ν₂ ∷ [], tt))) (args (κ₀, (κ₁, (ν₂ ∷ [], tt))) δ₂) ws) ⊛ raw ((c (κ₀, (κ₁, (ν₂ ∷ [], tt))) (args (κ₀, (κ₁, (ν₂ ∷ [], tt))) δ₂)).ensures (g (κ₀, (κ₁, (ν₂ ∷ [], tt))) δ₂) r (at_exit (shr_shr_mut_ended R₀ R₁ R₂ Q ss ks) (κ₀, (κ₁, (ν₂ ∷ [], tt))) (args (κ₀, (κ₁, (ν₂ ∷ [], tt))) δ₂) ws)))) (id⊢ 𝓤 _) $ pick t (λ ws. split t $ move t (1 ∷ []) $
      use1 𝓛 (raw (fact 𝓤 (ψ r ws.1.1.0))) (ens (κ₀, (κ₁, (ν₂ ∷ [], tt))) δ₂ r ws) $ heard t (ψ r ws.1.1.0) (λ e.
      fsplit t $ drop t $ fsplit t $ drop t $ fsplit t $ fsplit t $ fsplit t $ move t (1 ∷ []) $ feq_l t (λ l₂. move t (1 ∷ []) $ drop t $ move t (1 ∷ []) $ drop t $ move t (1 ∷ []) $ split t $ move t (1 ∷ []) $ peeks t Q (Is Q) (shows 𝓛 Q) r (u ∷ []) (λ is. drop t $ split t $ move t (1 ∷ []) $ split t $ move t (1 ∷ []) $ split t $ move t (1 ∷ []) $ drop t $
      move t (0 ∷ 8 ∷ 3 ∷ []) $ back_mut t tt R₂ b₂ o₂ γ₂ ys₂ n₂ en₂ ν₂ δ₂ room₂ ws.1.1.0 l₂ (move t (4 ∷ []) $ drop t $ move t (4 ∷ []) $ drop t $ move t (3 ∷ 4 ∷ 2 ∷ 5 ∷ 0 ∷ 1 ∷ []) $ k u r ws.1.1.0 (l₂ ∙ en₂) e is))))))))))
    where
      args : (κs : Lfts 3) (δ₂ : GName) → Args (shr_shr_mut_ended R₀ R₁ R₂ Q ss ks).signature κs
      args κs δ₂ = (seen b₀ o₀ ys₀, (seen b₁ o₁ ys₁, (ref b₂ o₂ δ₂ ys₂, a κs)))

      y : (κs : Lfts 3) (δ₂ : GName) → (contract_of 𝓛 (shr_shr_mut_ended R₀ R₁ R₂ Q ss ks) c).Ghost
      y κs δ₂ = ((κs, (q₀, (q₁, (full_share, tt))), tt, (seen b₀ o₀ ys₀, (seen b₁ o₁ ys₁, (ref b₂ o₂ δ₂ ys₂, a κs))), (slice_val (b₀, o₀) n₀ ∷ [], (slice_val (b₁, o₁) n₁ ∷ [], (slice_val (b₂, o₂) n₂ ∷ [], vss κs)))), g κs δ₂)

      pre : (κs : Lfts 3) (δ₂ : GName) → SProp 𝓤
      pre κs δ₂ = (contract_of 𝓛 (shr_shr_mut_ended R₀ R₁ R₂ Q ss ks) c).pre (y κs δ₂)

      goes : (κs : Lfts 3) (δ₂ : GName) → ent 𝓤 (sem 𝓛 (fsep (flft κs.0 q₀) (fsep (flft κs.1.0 q₁) (fsep (flft κs.1.1.0 full_share) (fsep ((ShrSlice (named 0) κs.0 R₀).own_val (seen b₀ o₀ ys₀) (slice_val (b₀, o₀) n₀ ∷ [])) (fsep ((ShrSlice (named 0) κs.1.0 R₁).own_val (seen b₁ o₁ ys₁) (slice_val (b₁, o₁) n₁ ∷ [])) ((MutSlice (named 0) κs.1.1.0 R₂).own_val (ref b₂ o₂ δ₂ ys₂) (slice_val (b₂, o₂) n₂ ∷ [])))))))) (pre κs δ₂)
      goes κs δ₂ =
          qed 𝓛 (‵ (fsep (flft κs.0 q₀) (fsep (flft κs.1.0 q₁) (fsep (flft κs.1.1.0 full_share) (fsep ((ShrSlice (named 0) κs.0 R₀).own_val (seen b₀ o₀ ys₀) (slice_val (b₀, o₀) n₀ ∷ [])) (fsep ((ShrSlice (named 0) κs.1.0 R₁).own_val (seen b₁ o₁ ys₁) (slice_val (b₁, o₁) n₁ ∷ [])) ((MutSlice (named 0) κs.1.1.0 R₂).own_val (ref b₂ o₂ δ₂ ys₂) (slice_val (b₂, o₂) n₂ ∷ []))))))) ∷ []) ∵ fsplit ! $ move ! (1 ∷ []) $ fsplit ! $ move ! (1 ∷ []) $ fsplit ! $ move ! (1 ∷ []) $ fsplit ! $ move ! (1 ∷ []) $ fsplit ! $
          use0 𝓛 (raw ((c κs (seen b₀ o₀ ys₀, (seen b₁ o₁ ys₁, (ref b₂ o₂ δ₂ ys₂, a κs)))).requires (g κs δ₂))) (req κs δ₂) $ use0 𝓛 (‵ (owns (types_at ss κs) (a κs) (vss κs))) (own κs) $ move ! (3 ∷ 0 ∷ []) $ fjoin ! $ move ! (2 ∷ 0 ∷ []) $ fjoin ! $ move ! (2 ∷ 0 ∷ []) $ fjoin ! $ nothing ! $ move ! (3 ∷ 0 ∷ []) $ join ! $ move ! (3 ∷ 0 ∷ []) $ join ! $ move ! (3 ∷ 0 ∷ []) $ join ! $ join ! $ frame ! $ done !
