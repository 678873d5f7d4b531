-- `put_sparse` meets its contract: the words that are counted are those of the step. Assumes nothing.
use borrow.Author.Rules.{rules}
use Rattle.load_list.proofs.listing.Sparse.{sparse_counted}
use Rattle.load_list.proofs.listing.put_sparse.Goals as goal

pub returns : goal.returns
returns c =
    let counted = sparse_counted _ _ _ _ _ _ _ (search rules) (search rules) c.fill_word.ensures c.requires.1 c.requires.2 c.requires.3 in
    (counted.counts, counted.writes)
