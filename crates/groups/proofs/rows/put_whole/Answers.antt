-- `put_whole`: three times eight rows and eight that overlap them are the 31 of the group. Assumes nothing.
use Rattle.groups.proofs.Parts.{put_eights}
use Rattle.groups.proofs.rows.put_whole.Goals as goal

pub returns : goal.returns
returns c =
    rw (
      c.put_eight-4.ensures,
      c.eight_bits-4.ensures,
      c.put_eight-3.ensures,
      c.eight_bits-3.ensures,
      c.put_eight-2.ensures,
      c.eight_bits-2.ensures,
      c.put_eight.ensures,
      c.eight_bits.ensures,
      c.from-bits.ensures,
    )
    (put_eights c.args.group c.args.out.now c.requires)
