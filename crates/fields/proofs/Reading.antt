-- Laws of lists that are read item by item.
use Rattle.std.proofs.Common.{ℕ, ◌+◌, ◌<◌, List, [], ◌∷◌, ◌++◌, length, take, set, ◌≡◌}
use Rattle.std.specs.List.{AllZip}
use Rattle.std.proofs.lemmas.List.{take_more_set}

module _ {A B : Type 0} (R : A → B → Type 0) where
  pushed : (xs : List A) (ys : List B) (x : A) (y : B) → AllZip R xs ys → R x y → AllZip R (xs ++ x ∷ []) (ys ++ y ∷ [])
  pushed [] [] x y all one = (one, tt)
  pushed (a ∷ xs) (b ∷ ys) x y all one = (all.0, pushed xs ys x y all.1 one)
  pushed [] (b ∷ ys) x y all one = absurd all
  pushed (a ∷ xs) [] x y all one = absurd all

  -- One item is read more.
  pub one_more : (xs : List A) (list later : List B) (count : ℕ) (x : A) (value : B) → count < length list → later ≡ set list count value → AllZip R xs (take count list) → R x value → AllZip R (xs ++ x ∷ []) (take (count + 1) later)
  one_more xs list later count x value less stored all one = rw (stored, take_more_set list count value less) (pushed xs (take count list) x value all one)
