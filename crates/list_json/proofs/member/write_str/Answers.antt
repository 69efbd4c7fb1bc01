use Rattle.std.proofs.lemmas.Str.{is_utf8-from_IsUtf8}
use Rattle.list_json.proofs.member.write_str.Goals as goal

pub returns-in_err-key-clause-text : goal.returns-in_err-key-clause-text
returns-in_err-key-clause-text c = is_utf8-from_IsUtf8 _ c.utf8.text

pub returns-clause-text : goal.returns-clause-text
returns-clause-text c = is_utf8-from_IsUtf8 _ c.utf8.text
