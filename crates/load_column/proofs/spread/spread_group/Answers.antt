-- `spread_group` meets its contract: the groups of one byte, or those gathered aside, are put. Assumes nothing.
use Rattle.std.proofs.Common.{sym, ◌∙◌, arith}
use Rattle.groups.proofs.Groups.{get_or-zeros}
use Rattle.load_column.proofs.spread.Alike.{whole_group}
use Rattle.load_column.proofs.spread.Placing.{place_same}
use Rattle.load_column.proofs.spread.spread_group.Goals as goal

pub returns-then-one_byte : goal.returns-then-one_byte
returns-then-one_byte c =
    let is_one = sym c.one_byte.ensures ∙ c.if-one_byte.true in
    place_same c.put_whole.ensures (λ value below. whole_group c.args.rows.now is_one value)

pub gather_groups-requires : goal.gather_groups-requires
gather_groups-requires c = (c.requires.0, λ value. get_or-zeros 64 value)

pub returns : goal.returns
returns c = place_same c.put_groups.ensures (λ value below. c.gather_groups.ensures value (omega arith))
