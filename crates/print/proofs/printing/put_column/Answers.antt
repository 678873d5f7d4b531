-- `put_column` loads into cleared memory: the load is refused, or the lines of all values are printed.
use Rattle.std.proofs.Common.{◌≡◌, refl, replicate}
use Rattle.block_read.specs.Fences.{fence_of}
use Rattle.memory.specs.Memory.{memory_of}
use Rattle.print.specs.Printed.{cleared}
use Rattle.print.proofs.printing.Exits.{refusal_fits, refusal_printed, lists_fit, lists-printed}
use Rattle.print.proofs.printing.put_column.Goals as goal

is_cleared : memory_of (replicate 8192 0) (replicate 1024 (fence_of 0 0)) ≡ cleared
unfolding cleared
is_cleared = refl

pub put_refusal-requires : goal.put_refusal-requires
put_refusal-requires c = refusal_fits c.from.result c.args.out.now c.requires

pub returns-in-Err : goal.returns-in-Err
returns-in-Err c =
    refusal_printed (replicate 8192 0) (replicate 1024 (fence_of 0 0)) is_cleared c.args.rows c.args.values c.args.threshold c.args.spacing
    c.args.column.now c.args.out.now c.load-loaded.result c.load-loaded.new.words c.load-loaded.new.fences c.load-loaded.ensures
    c.in-Err.refusal c.in-Err.is c.from.result c.from.ensures c.put_refusal.result c.put_refusal.new.out c.put_refusal.ensures

pub put_values-requires : goal.put_values-requires
put_values-requires c =
    lists_fit (replicate 8192 0) (replicate 1024 (fence_of 0 0)) is_cleared c.args.rows c.args.values c.args.threshold c.args.spacing
    c.args.column.now c.args.out.now c.load-loaded.result c.load-loaded.new.words c.load-loaded.new.fences c.load-loaded.ensures
    c.in-Ok.field-0 c.in-Ok.is c.requires (replicate 4096 0) refl

pub returns-in-Ok : goal.returns-in-Ok
returns-in-Ok c =
    lists-printed (replicate 8192 0) (replicate 1024 (fence_of 0 0)) is_cleared c.args.rows c.args.values c.args.threshold c.args.spacing
    c.args.column.now c.args.out.now c.load-loaded.result c.load-loaded.new.words c.load-loaded.new.fences c.load-loaded.ensures
    c.in-Ok.field-0 c.in-Ok.is c.put_values.result c.put_values.new.out c.put_values.ensures
