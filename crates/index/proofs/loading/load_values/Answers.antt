-- `load_values`: the blocks of all values are written, and each round makes the fences of one.
use Rattle.std.proofs.Common.{arith, ℕ, ◌≡◌, ap, refl, ◌∙◌}
use Rattle.index.proofs.loading.Rounds.{loaded_to, load_asks, words-done, renew_asks, renews}
use Rattle.index.proofs.loading.load_values.Goals as goal

pub load_blocks-requires : goal.load_blocks-requires
load_blocks-requires c =
    let asks = load_asks c.args.words.now c.args.fences.now c.args.column.now c.requires.0 c.requires.1 in
    (asks.1, asks.2, asks.3)

pub loop-value-init : goal.loop-value-init
loop-value-init c = refl

pub renew-requires : goal.renew-requires
renew-requires c =
    let a = c.args in
    let blocks = c.load_blocks in
    renew_asks a.words.now a.fences.now a.column.now c.requires.0 c.requires.1 blocks.new.words blocks.auto.words blocks.ensures
    c.loop-value.value (omega arith) c.loop-value.fences c.loop-value.auto.fences

pub loop-value-preserved : goal.loop-value-preserved
loop-value-preserved c =
    let a = c.args in
    let blocks = c.load_blocks in
    renews a.words.now a.fences.now a.column.now c.requires.0 c.requires.1 blocks.new.words blocks.auto.words blocks.ensures
    c.loop-value.value (omega arith) c.loop-value.fences c.loop-value.invariant c.renew.new.fences c.renew.ensures

pub returns : goal.returns
returns c =
    let a = c.args in
    let blocks = c.load_blocks in
    let all : c.loop-value.value ≡ a.header.values = omega arith in (
      words-done a.words.now a.fences.now a.column.now c.requires.0 c.requires.1 blocks.new.words blocks.auto.words blocks.ensures,
      c.loop-value.invariant
          ∙ ap (λ (v : ℕ). (loaded_to a.words.now a.fences.now a.column.now c.requires.0 c.requires.1 v).fences) all,
    )
