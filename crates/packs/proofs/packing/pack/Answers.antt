-- `pack` refuses in the order of document 01's numbers, and writes where the list is sure to fit; elsewhere `pack_aside` answers.
use mathlib.Core.Path.{◌∙◌, sym}
use native.Mathlib.Omega.{arith}
use Rattle.words.specs.Words.{packed}
use Rattle.words.proofs.Size.{packed-length}
use Rattle.answers.proofs.Given.{fits}
use Rattle.packs.proofs.packing.Exits.{bad_value_lem, full, in_order}
use Rattle.packs.proofs.packing.pack.Goals as goal

pub returns-then-not-all_bits : goal.returns-then-not-all_bits
returns-then-not-all_bits c =
    let a = c.args in
    let k = c.all_bits in
    bad_value_lem a.rows.now a.out.now (sym k.ensures ∙ c.if-not-all_bits.true)

pub returns-then-rows-gt-ROW_LIMIT : goal.returns-then-rows-gt-ROW_LIMIT
returns-then-rows-gt-ROW_LIMIT c =
    let a = c.args in
    let k = c.all_bits in
    full a.rows.now a.out.now (sym k.ensures ∙ c.if-not-all_bits.false) c.if-rows-gt-ROW_LIMIT.true

pub pack_aside-requires : goal.pack_aside-requires
pack_aside-requires c =
    let k = c.all_bits in
    (sym k.ensures ∙ c.if-not-all_bits.false, c.if-rows-gt-ROW_LIMIT.false)

pub pack_into-words-requires : goal.pack_into-words-requires
pack_into-words-requires c =
    let k = c.all_bits in
    let rows = c.args.rows.now in (
      sym k.ensures ∙ c.if-not-all_bits.false,
      c.if-rows-gt-ROW_LIMIT.false,
      omega (arith, packed-length rows, c.groups_for.ensures, c.if-out-groups_for.false),
    )

pub returns : goal.returns
returns c =
    let a = c.args in
    let k = c.all_bits in
    let p = c.pack_into-words in
    let bits = sym k.ensures ∙ c.if-not-all_bits.false in
    rw (in_order a.rows.now a.out.now bits c.if-rows-gt-ROW_LIMIT.false)
    (fits (packed a.rows.now) a.out.now
    (omega (arith, packed-length a.rows.now, c.groups_for.ensures, c.if-out-groups_for.false))
    p.result p.new.out p.ensures.0 p.ensures.1)
