-- `put_part` meets its contract: eight groups make the run longer, or each of them is taken in. Assumes nothing.
use mathlib.Core.Path.{sym, ◌∙◌}
use Prim.Native.Nat.{◌*◌}
use Rattle.words.specs.Words.{all_ones}
use Rattle.load_list.proofs.listing.Alike.{alike_numbers, alike-replicate}
use Rattle.load_list.proofs.listing.Loop.{follows_run}
use Rattle.load_list.proofs.listing.put_part.Goals as goal

pub returns-then-all_alike-clause-follows : goal.returns-then-all_alike-clause-follows
returns-then-all_alike-clause-follows c =
    let number = c.args.list.now.pending.bit * all_ones in
    let alike = sym (alike_numbers number c.args.groups.now) ∙ sym c.all_alike.ensures ∙ c.if-all_alike.true in
    rw (alike-replicate number c.args.groups.now 8 c.told-groups alike) (follows_run c.args.list.now 8 c.requires.0.is_bit)
