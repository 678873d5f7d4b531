-- What Value answers: the words that it opens, and that the paper tells its answers apart. Assumes nothing.
use Rattle.std.specs.Prelude.{Result, Ok, Err}
use mathlib.Core.Path.{◌≡◌, refl, sym, ap, ap₂, ◌∙◌}
use mathlib.Core.Bool.{Bool, true, false, cond}
use Prim.Native.Nat.{ℕ, zero, suc, ◌*◌, ◌<◌, ◌≤◌}
use native.Mathlib.Omega.{arith}
use borrow.Author.Tests.{eqb-false}
use Rattle.answers.specs.Numbers.{Paper, paper}
use Rattle.answers.specs.declared.Refusal.{Refusal}
use Rattle.answers.specs.declared.Refusal.TheVariants.{Damaged}
use Rattle.answers.proofs.OneToOne.{one_to_one}
use Rattle.memory.specs.Memory.{Memory, sizes_of}
use Rattle.memory.specs.Reading.{row_of, is_damaged, is_deleted, refused_value, value_of, ValuePaper, state_paper, value_paper}
use Rattle.memory.specs.declared.header.Header.{Header}
use Rattle.memory.specs.declared.row.Row.{Row}
use Rattle.memory.specs.declared.row.State.{State}
use Rattle.memory.specs.declared.row.State.TheVariants.{Live, Deleted, Refused}
use Rattle.memory.specs.declared.row.Value.{Value}
use Rattle.memory.proofs.RowLaws.{read_budget, row_opened}

-- ---- the paper

-- the number and the value of a state are those of an answer, which has the state again beside whether the row is live
answer_of : State → Result ℕ Refusal
answer_of (Live value) = Ok value
answer_of Deleted = Ok 255
answer_of (Refused refusal) = Err refusal

state_of : ℕ → Result ℕ Refusal → State
state_of zero (Ok value) = Deleted
state_of (suc live) (Ok value) = Live value
state_of zero (Err refusal) = Refused refusal
state_of (suc live) (Err refusal) = Refused refusal

state_back : (state : State) (opened : ℕ) → state_of (state_paper state opened).live (answer_of state) ≡ state
unfolding answer_of state_of
state_back (Live value) opened = refl
state_back Deleted opened = refl
state_back (Refused refusal) opened = refl

opened_back : (state : State) (opened : ℕ) → (state_paper state opened).opened ≡ opened
opened_back (Live value) opened = refl
opened_back Deleted opened = refl
opened_back (Refused refusal) opened = refl

by_answer : (state : State) (opened : ℕ)
    → record { number = (state_paper state opened).number; count = (state_paper state opened).value } ≡ paper (answer_of state)
unfolding answer_of
by_answer (Live value) opened = refl
by_answer Deleted opened = refl
by_answer (Refused refusal) opened = refl

-- THEOREM: the paper of Value's answer is one-to-one
pub value-one_to_one : (a b : Value) → value_paper a ≡ value_paper b → a ≡ b
value-one_to_one a b e =
    let papers = ap {B = Paper} (λ (p : ValuePaper). record { number = p.number; count = p.value }) e in
    let answers =
    one_to_one (answer_of a.state) (answer_of b.state)
    (sym (by_answer a.state a.opened) ∙ papers ∙ by_answer b.state b.opened) in
    let states =
    sym (state_back a.state a.opened)
    ∙ ap₂ state_of (ap (λ (p : ValuePaper). p.live) e) answers
    ∙ state_back b.state b.opened in
    let counts = sym (opened_back a.state a.opened) ∙ ap (λ (p : ValuePaper). p.opened) e ∙ opened_back b.state b.opened in
    ap₂ (λ state opened. record { state = state; opened = opened }) states counts

-- ---- what Value finds

-- what holds of damage, of a deleted row and of a live one holds of the answer that a row gives
by_state : (row : Row) (P : Value → Type 0) → P (refused_value Damaged) → P (record { state = Deleted; opened = row.opened })
    → (0 < row.holders → P (record { state = Live row.value; opened = row.opened })) → P (value_of row)
unfolding value_of
by_state row P damage deleted live = go (is_damaged row) (is_deleted row) refl
  where
    go : (damaged gone : Bool) → is_deleted row ≡ gone
        → P (cond damaged (refused_value Damaged)
        (cond gone (record { state = Deleted; opened = row.opened }) (record { state = Live row.value; opened = row.opened })))
    go true gone e = damage
    go false true e = deleted
    go false false e = live (omega (arith, eqb-false row.holders 0 e))

module _ (header : Header) (memory : Memory) (row : ℕ) where
  -- THEOREM: Value opens at most d x (G + 2T + 1) words
  pub value_opened : (value_of (row_of header memory row)).opened ≤ header.values * read_budget (sizes_of header)
  value_opened =
      let cheap = row_opened header memory row in
      by_state (row_of header memory row) (λ value. value.opened ≤ header.values * read_budget (sizes_of header)) (omega arith) cheap (λ some. cheap)
