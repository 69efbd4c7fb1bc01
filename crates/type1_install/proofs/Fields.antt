-- What an entry of texts and payloads may say.
use Rattle.std.proofs.Common.{◌≤◌, List, [], ◌∷◌, length, map, refl, sym, subst, All}
use Rattle.std.proofs.lemmas.List.{length-map}
use Rattle.std.proofs.lemmas.List.Elements.{All-cons, All-head, All-nil, All-tail}
use Rattle.boot_texts.specs.EntryText.{AreEntryFields, IsPayloadValue}
use Rattle.tool_words.specs.declared.command.EntryTexts.{EntryTexts}
use Rattle.type1_install.specs.Shown.{AreFields, HasPayloadName, fields_with, value_of_payload}
use Rattle.type1_install.specs.declared.payload.Payload.{Payload}
use Rattle.type1_install.proofs.Planned.{option_all, option_one}

values_fit : (payloads : List Payload) → All HasPayloadName payloads → All IsPayloadValue (map value_of_payload payloads)
values_fit [] names = All-nil IsPayloadValue
values_fit (payload ∷ payloads) names =
    All-cons IsPayloadValue (value_of_payload payload) (map value_of_payload payloads) (payload.name, refl, All-head HasPayloadName payload payloads names)
    (values_fit payloads (All-tail HasPayloadName payload payloads names))

pub fields_fit : (texts : EntryTexts) (linux : Payload) (initrds : List Payload) → AreFields texts → HasPayloadName linux → All HasPayloadName initrds
    → length initrds ≤ 64 → AreEntryFields (fields_with texts linux initrds)
fields_fit texts linux initrds fields name names few = record {
  title = fields.title;
  version = fields.version;
  machine_id = fields.machine_id;
  sort_key = fields.sort_key;
  linux = (value_of_payload linux, refl, (linux.name, refl, name));
  initrds = values_fit initrds names;
  few = subst (λ n. n ≤ 64) (sym (length-map initrds value_of_payload)) few;
  options = option_all texts.options fields.options;
  one = option_one texts.options;
  no_efi = refl;
  no_devicetree = refl;
  no_overlay = refl;
  no_architecture = refl;
}
