use Rattle.slice_lexer.proofs.Steps.{token_read, bytes_read}
use Rattle.slice_lexer.proofs.token.Tokens.text.Goals as goal

pub slice_bounds-result-count : goal.slice_bounds-result-count
slice_bounds-result-count c =
    (token_read c.args.text.now c.self.inside.items.items c.args.self.now c.args.at c.index-token.result.now c.self.view_is c.requires.within c.index-token.ensures c.requires.same_text).0

pub slice_bounds-result-start : goal.slice_bounds-result-start
slice_bounds-result-start c =
    (token_read c.args.text.now c.self.inside.items.items c.args.self.now c.args.at c.index-token.result.now c.self.view_is c.requires.within c.index-token.ensures c.requires.same_text).0

pub slice_bounds-result-end : goal.slice_bounds-result-end
slice_bounds-result-end c =
    (token_read c.args.text.now c.self.inside.items.items c.args.self.now c.args.at c.index-token.result.now c.self.view_is c.requires.within c.index-token.ensures c.requires.same_text).1

pub returns : goal.returns
returns c = bytes_read c.args.text.now c.self.inside.items.items c.args.self.now c.args.at c.index-token.result.now c.self.view_is c.index-token.ensures
