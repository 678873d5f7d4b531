-- `put_words` writes one word a turn: what is left to write gives the whole text.
use mathlib.Core.Path.{◌≡◌}
use Prim.Native.Nat.{◌+◌, ◌*◌, ◌≤◌}
use lib.ListN.{length, drop}
use lib.Seq.{sets}
use Rattle.print.specs.Text.{hex_words}
use Rattle.print.proofs.text.put_words.Given as goal

abbrev pub invariant-loop-word : goal.invariant-loop-word
invariant-loop-word l =
    (l.next ≡ l.at + 8 * l.word-index)
    × (length l.out ≡ length l.initial.out)
    × (l.at + 8 * length l.list ≤ length l.initial.out)
    × (sets l.out l.next (hex_words (drop l.word-index l.list)) ≡ sets l.initial.out l.at (hex_words l.list))
