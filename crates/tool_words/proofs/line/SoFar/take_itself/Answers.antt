use Rattle.tool_words.specs.Shown.{texts}
use Rattle.tool_words.proofs.LineLemmas.{all_words-itself}
use Rattle.tool_words.proofs.line.SoFar.take_itself.Goals as goal

pub returns : goal.returns
returns c = λ rest e.
    all_words-itself (texts c.args.self.words.items) c.args.self.word c.new.result c.unwrap_or-word.result c.push.new.self c.args.self.quoted c.args.c rest c.new.ensures.bytes c.unwrap_or-word.ensures c.in_ok-push.ensures.bytes e
