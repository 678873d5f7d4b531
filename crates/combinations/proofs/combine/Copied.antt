-- Words that are copied before a turn of the loop over two lists: where the loop stands after them. Assumes nothing.
use mathlib.Core.Path.{◌≡◌, refl, ◌∙◌, ap, sym}
use mathlib.Core.List.{List, ◌++◌, append_assoc}
use Prim.Native.Nat.{ℕ, ◌+◌, ◌-◌, ◌≤◌}
use native.Mathlib.Omega.{arith}
use lib.ListN.{length, take, drop}
use lib.Seq.{sets}
use Rattle.words.specs.Words.{decode, encode}
use Rattle.words.specs.Inner.{after, last_words}
use Rattle.words.specs.declared.writer.ListWriter.{ListWriter}
use Rattle.words.proofs.Writing.{words_fit, words_on}
use Rattle.lists.specs.Combine.{exclusive, combined}
use Rattle.combinations.specs.Inner.{remaining, shorter, past, Opened, xor_from, Copies}
use Rattle.combinations.specs.declared.span.Span.{Span}
use Rattle.combinations.specs.declared.copying.Copying.{Copying}
use Rattle.combinations.proofs.combine.Spans.{side_on, Combining}

module _ {left right : List ℕ} {groups : ℕ} {out₀ : List ℕ} {list : ListWriter} {from-left from-right ahead : Span} {done : ℕ} {copying : Copying}
    (k : Combining exclusive left right groups out₀ list from-left from-right done) (opens : Opened right from-right ahead)
    (c : Copies left from-left ahead list.pending copying) where
  abbrev rest : List ℕ
  rest = combined exclusive (remaining left from-left) (remaining right from-right)

  abbrev behind : List ℕ
  behind = combined exclusive (remaining left (past from-left copying.words)) (remaining right (shorter ahead copying.groups))

  abbrev last : List ℕ
  last = last_words copying.ended

  abbrev words : List ℕ
  words = take copying.words (drop from-left.next left)

  same : rest ≡ xor_from left from-left ahead (decode (drop ahead.next right))
  same = ap (combined exclusive (remaining left from-left)) opens.same

  ended_law : encode (after list.pending rest) ≡ last ++ encode (after copying.pending rest)
  ended_law = rw same (c.first (decode (drop ahead.next right)))

  copied_law : encode (after copying.pending rest) ≡ words ++ encode (after copying.pending behind)
  copied_law = rw same (c.then (decode (drop ahead.next right)))

  -- the run that ended and the words as they are
  law : encode (after list.pending rest) ≡ last ++ words ++ encode (after copying.pending behind)
  law = ended_law ∙ ap (◌++◌ last) copied_law ∙ sym (append_assoc last words (encode (after copying.pending behind)))

  -- the part of the left list that they stand in
  abbrev part : List ℕ
  part = take (from-left.next + copying.words - from-left.next) (drop from-left.next left)

  part_is : part ≡ words
  part_is =
      let count : from-left.next + copying.words - from-left.next ≡ copying.words = omega arith in
      rw count refl

  pub splice_fits : list.written + length (last ++ part) ≤ length list.out.now
  splice_fits = rw part_is (words_fit k.writing k.room behind (last ++ words) (length (last ++ words)) copying.pending refl law)

  pub splice_on : (further : ListWriter)
      → (further.out.now ≡ sets list.out.now list.written (last ++ part)) × (further.written ≡ list.written + length (last ++ part))
      × (further.pending ≡ copying.pending)
      → Combining exclusive left right groups out₀ further (past from-left copying.words) (shorter ahead copying.groups) (done + copying.groups)
  splice_on further s =
      record {
        on_left = record {
          long = omega (arith, c.covers, k.on_left.long);
          alone = k.on_left.alone;
          small = k.on_left.small;
          near = c.inside;
        };
        on_right = side_on right groups done copying.groups from-right ahead k.on_right opens (omega (arith, c.within));
        few = rw s.2 (omega (arith, c.shrinks.1, k.few));
        room = k.room;
        writing = rw (s.0, s.1, s.2, part_is)
            (words_on k.writing k.room behind (last ++ words) (length (last ++ words)) copying.pending refl law c.are_bits.1);
      }

  -- a group of the right list is still at hand
  pub still_opened : (y : Span) → y ≡ shorter ahead copying.groups → Opened right (shorter ahead copying.groups) y
  still_opened y e =
      rw e
      record {
        same = refl;
        some = omega (arith, c.within);
        alone = λ none all. omega (arith, opens.alone none all);
        small = opens.small;
        near = opens.near;
      }
