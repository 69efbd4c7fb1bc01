use Rattle.std.proofs.Common.{◌≡◌, [], ◌∷◌, ◌++◌, map, take, ap, sym, subst, ◌∙◌, arith}
use Rattle.std.specs.List.{list_all}
use Rattle.std.proofs.lemmas.Bool.{and_from}
use Rattle.std.proofs.lemmas.List.{flat_map_more, take_all}
use Rattle.std.proofs.lemmas.List.Folds.{list_all_more}
use Rattle.json.specs.Print.{print}
use Rattle.json.specs.Token.{Token}
use Rattle.list_json.specs.Menus.{entry_data, is_told, menu_data}
use Rattle.list_json.specs.Tokens.{ListReads, data_tokens, list_tokens}
use Rattle.list_json.proofs.Answers.{plain_menu}
use Rattle.list_json.proofs.MenuLine.{array_written, line_read, line_written, taken_more}
use Rattle.list_json.proofs.ReadBack.{array_read, list_more}
use Rattle.list_json.proofs.Texts.{first_found, first_place, none_failing}
use Rattle.list_json.proofs.menu.menu_json.Goals as goal

pub returns-in-Err-NotText-clause-untold : goal.returns-in-Err-NotText-clause-untold
returns-in-Err-NotText-clause-untold c = (
  c.loop-index-test.true,
  first_place is_told c.args.entries.now c.loop-index.index c.index-entries-index.result c.loop-index-test.true c.loop-index.invariant.told (ap is_told (sym c.index-entries-index.is) ∙ rw c.in-Err-NotText.field-0-is at c.in-Err-NotText.ensures.text),
  first_found is_told c.args.entries.now c.loop-index.index c.index-entries-index.result c.loop-index-test.true c.loop-index.invariant.told (ap is_told (sym c.index-entries-index.is) ∙ rw c.in-Err-NotText.field-0-is at c.in-Err-NotText.ensures.text),
)

pub loop-index-preserved : goal.loop-index-preserved
loop-index-preserved c =
    let entry = c.index-entries-index.result in
    let before = map entry_data (take c.loop-index.index c.args.entries.now) in
    let more = taken_more entry_data c.args.entries.now c.loop-index.index entry c.loop-index-test.true c.index-entries-index.is in
    record {
      before = c.in-Ok.ensures.before ∙ c.loop-index.invariant.before;
      tokens = c.in-Ok.ensures.tokens
          ∙ ap (λ ts. ts ++ data_tokens (entry_data entry)) c.loop-index.invariant.tokens
          ∙ flat_map_more data_tokens (Token.begin_array ∷ []) before (entry_data entry)
          ∙ ap (λ values. Token.begin_array ∷ list_tokens values) (sym more);
      reads = subst ListReads (sym more) (list_more before (entry_data entry) c.loop-index.invariant.reads c.in-Ok.ensures.reads);
      told = list_all_more is_told c.args.entries.now c.loop-index.index entry c.loop-index-test.true
          ∙ and_from _ _ c.loop-index.invariant.told (ap is_told (sym c.index-entries-index.is) ∙ c.in-Ok.ensures.text);
    }

pub returns-clause-line : goal.returns-clause-line
returns-clause-line c =
    let entries = c.args.entries.now in
    let ts = c.end_array.new.self.tokens in
    let made : ts ≡ data_tokens (menu_data entries) =
    c.in_ok-end_array.ensures.ok
    ∙ ap (λ ts. ts ++ Token.end_array ∷ []) (c.loop-index.invariant.tokens ∙ ap (λ es. Token.begin_array ∷ list_tokens (map entry_data es)) (take_all c.loop-index.index entries c.loop-index-test.false))
    ∙ array_written (map entry_data entries) in
    let text : c.into_inner-line.result.items ≡ print ts =
    c.into_inner-line.ensures.items ∙ ap (λ bytes. bytes ++ print ts) (c.in_ok-end_array.ensures.room.0 ∙ c.loop-index.invariant.before) in
    line_written _ ts (menu_data entries) (c.in_ok-push.ensures.items ∙ ap (λ bytes. bytes ++ 10 ∷ []) text) made

pub returns-clause-reads : goal.returns-clause-reads
returns-clause-reads c =
    let entries = c.args.entries.now in
    let ts = c.end_array.new.self.tokens in
    let made : ts ≡ data_tokens (menu_data entries) =
    c.in_ok-end_array.ensures.ok
    ∙ ap (λ ts. ts ++ Token.end_array ∷ []) (c.loop-index.invariant.tokens ∙ ap (λ es. Token.begin_array ∷ list_tokens (map entry_data es)) (take_all c.loop-index.index entries c.loop-index-test.false))
    ∙ array_written (map entry_data entries) in
    let text : c.into_inner-line.result.items ≡ print ts =
    c.into_inner-line.ensures.items ∙ ap (λ bytes. bytes ++ print ts) (c.in_ok-end_array.ensures.room.0 ∙ c.loop-index.invariant.before) in
    let all = subst (λ es. ListReads (map entry_data es)) (take_all c.loop-index.index entries c.loop-index-test.false) c.loop-index.invariant.reads in
    line_read _ ts (menu_data entries) (c.in_ok-push.ensures.items ∙ ap (λ bytes. bytes ++ 10 ∷ []) text) made c.into_inner-line.ensures.reads_back c.into_inner-line.ensures.utf8
    (array_read (map entry_data entries) all) (omega (arith, (plain_menu entries).shallow))

pub returns-clause-told : goal.returns-clause-told
returns-clause-told c = none_failing is_told c.args.entries.now (ap (list_all is_told) (sym (take_all c.loop-index.index c.args.entries.now c.loop-index-test.false)) ∙ c.loop-index.invariant.told)
