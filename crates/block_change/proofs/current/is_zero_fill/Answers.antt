-- `is_zero_fill` meets its contract: the groups of one word are all the group that stands in it. Assumes nothing.
use mathlib.Core.Path.{◌≡◌, refl, ◌∙◌, sym}
use mathlib.Core.List.{List, [], ◌∷◌, append-nil}
use Prim.Native.Nat.{ℕ}
use native.Mathlib.Omega.{arith}
use lib.ListN.{length, get_or, replicate, length-replicate}
use borrow.Author.Tests.{eqb-true}
use Rattle.words.specs.Words.{run_of, group_in, decode}
use Rattle.block_change.proofs.current.is_zero_fill.Goals as goal

-- one word of zeros stands for zeros
one_word : (list : List ℕ) → length list ≡ 1 → group_in (run_of (get_or list 0 0)) ≡ 0 → decode list ≡ replicate (length (decode list)) 0
one_word [] e z = absurd (omega arith)
one_word (word ∷ []) e z = rw (append-nil, length-replicate, z) refl
one_word (word ∷ next ∷ list) e z = absurd (omega arith)

pub returns-then-list-ne1 : goal.returns-then-list-ne1
returns-then-list-ne1 c never = let z : ◌≡◌ {A = ℕ} 0 1 = cc in absurd (omega arith)

pub returns : goal.returns
returns c zero =
    let list = c.args.list.now in
    let found = c.group_in in
    one_word list c.if-list-ne1.false (sym found.ensures ∙ eqb-true found.result 0 zero)
