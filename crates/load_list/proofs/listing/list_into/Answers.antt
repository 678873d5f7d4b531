-- `list_into` takes in eight groups at a time, those left one by one, and by a last step those behind. Assumes nothing.
use mathlib.Core.Path.{◌≡◌, ◌∙◌}
use mathlib.Core.List.{List}
use Prim.Native.Nat.{ℕ, ◌+◌, ◌-◌, ◌*◌, ◌/◌, ◌≤◌}
use native.Mathlib.Omega.{arith}
use lib.ListN.{length, get_or, take, drop, take-append-drop}
use Rattle.std.proofs.Common.{rules}
use Rattle.words.specs.Inner.{no_run, Fits, Follows}
use Rattle.words.specs.declared.writer.ListWriter.{ListWriter}
use Rattle.load_list.proofs.listing.Loop.{fits_on, follows_on, clear_on, part-fits, part_follows, nth_part, groups_fit, clear_none, zeros_fit, all_close, all_ends}
use Rattle.load_list.proofs.listing.list_into.Goals as goal

module _ (total : ℕ) (groups out₀ : List ℕ)
    (r : (length groups ≤ total) × (total ≤ 4096) × (total ≤ length out₀) × ((place : ℕ) → get_or out₀ place 0 ≡ 0))
    (none : ListWriter) (b : (none.out.now ≡ out₀) × (none.written ≡ 0) × (none.pending ≡ no_run)) where
  -- the words of all groups have room
  fits : Fits groups none
  fits = groups_fit total groups out₀ r none b

  module _ (i : ℕ) {list : ListWriter} (f : Follows (take (i * 8) groups) none list) where
    -- one part more is passed
    part_passed : {further : ListWriter} → Follows (take 8 (drop (i * 8) groups)) list further → Follows (take ((i + 1) * 8) groups) none further
    part_passed g =
        let eight : (i + 1) * 8 - i * 8 ≡ 8 = omega arith in
        part_follows fits (i * 8) f ((i + 1) * 8) (omega arith) (rw eight g)

    -- the groups behind the last part fit, and all are passed with them
    module _ {rest : List ℕ} (back : rest ≡ drop (length groups / 8 * 8) groups) (last : length groups / 8 ≡ i) where
      rest-fits : Fits rest list
      rest-fits = rw (back, last) (fits_on f (drop (i * 8) groups) (rw take-append-drop fits))

      passed : {further : ListWriter} → Follows rest list further → Follows groups none further
      passed g = rw take-append-drop at (follows_on f (rw (back, last) at g))

pub put_part-requires : goal.put_part-requires
put_part-requires c =
    let l = c.loop-part in
    let groups = c.args.groups.now in
    let part = nth_part 8 (length groups / 8) groups l.part-index (omega arith) in (
      rw (c.as_chunks.ensures.front, part) (part-fits (fits _ _ _ c.requires c.new-list.result c.new-list.ensures.begins) (l.part-index * 8) l.invariant.follows 8),
      clear_on l.invariant.follows (clear_none _ _ _ c.requires c.new-list.result c.new-list.ensures.begins),
    )

pub loop-part-preserved : goal.loop-part-preserved
loop-part-preserved c =
    let l = c.loop-part in
    let groups = c.args.groups.now in
    let part = nth_part 8 (length groups / 8) groups l.part-index (omega arith) in
    record {
      follows = part_passed _ _ _ c.requires c.new-list.result c.new-list.ensures.begins l.part-index l.invariant.follows (rw (c.as_chunks.ensures.front, part) at c.put_part.ensures.follows);
      same_reference = cc;
    }

pub put_each-requires : goal.put_each-requires
put_each-requires c =
    rest-fits _ _ _ c.requires c.new-list.result c.new-list.ensures.begins c.loop-part.part-index c.loop-part.invariant.follows c.as_chunks.ensures.back (omega arith)

pub push_zeros-requires : goal.push_zeros-requires
push_zeros-requires c =
    let all = passed _ _ _ c.requires c.new-list.result c.new-list.ensures.begins c.loop-part.part-index c.loop-part.invariant.follows
    c.as_chunks.ensures.back (omega arith) c.put_each.ensures.follows in
    zeros_fit _ _ _ c.requires c.new-list.result c.new-list.ensures.begins all

pub finish-requires : goal.finish-requires
finish-requires c =
    let all = passed _ _ _ c.requires c.new-list.result c.new-list.ensures.begins c.loop-part.part-index c.loop-part.invariant.follows
    c.as_chunks.ensures.back (omega arith) c.put_each.ensures.follows in
    all_close _ _ _ c.requires c.new-list.result c.new-list.ensures.begins all c.push_zeros.ensures.follows

pub returns : goal.returns
returns c =
    let all = passed _ _ _ c.requires c.new-list.result c.new-list.ensures.begins c.loop-part.part-index c.loop-part.invariant.follows
    c.as_chunks.ensures.back (omega arith) c.put_each.ensures.follows in
    let e = c.finish.ensures in
    let end = all_ends _ _ _ c.requires c.new-list.result c.new-list.ensures.begins all c.push_zeros.ensures.follows in
    (e.0 ∙ end.0, search (rules, e, end))
