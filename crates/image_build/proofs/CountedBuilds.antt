-- An image that words of a build mean can be counted.
use Rattle.std.proofs.Common.{◌≡◌, ◌≤◌, ◌<◌, ◌+◌, ◌^◌, ℕ, List, [], length, drop, refl, ap, ◌∙◌, subst, true, false, arith, Result, Ok, Err, Bool, Option, Some, None, sum_by, find, nat_lt, ◌==◌, if◌then◌else◌, ltb-false, length-drop, length-take}
use Rattle.std.specs.List.{position_or_len}
use Rattle.std.specs.FinMap.{get}
use Rattle.boot_base.specs.Limits.{file_limit}
use Rattle.boot_base.specs.Paths.{Path}
use Rattle.boot_base.specs.declared.refusal.Refusal.{Refusal}
use Rattle.boot_machine.specs.Prelude.{Files, contents}
use Rattle.command_plans.specs.Prelude.{bytes_at, each, headers_or, readable_bytes}
use Rattle.command_plans.proofs.Each.{bind_ok}
use Rattle.pe_builder.specs.Replaced.{sbat_name}
use Rattle.pe_reader.specs.Prelude.{part, Headers, pe_of, loaded_bytes, loaded_in, loaded_of, range_of, is_named}
use Rattle.pe_reader.specs.declared.fault.FailedCheck.{FailedCheck}
use Rattle.pe_reader.specs.declared.section.Section.{Section}
use Rattle.uki_parts.specs.Sbat.{sbat_entries}
use Rattle.image_build.specs.Building.{Contents, Material, contents_of, given_sbat, material, named_as, part_bytes, sbat_of}
use Rattle.image_build.specs.declared.source.Source.{Source}
use Rattle.image_build.specs.declared.source.Source.TheVariants as sources
use Rattle.image_build.specs.Laws.{BuildsAreCountable}
use Rattle.image_build.specs.Reads.{material_as}
use Rattle.image_build.proofs.BuildCounts.{SourceIsShort, build_bounded}
use Rattle.image_build.proofs.Countable.{counted}
use Rattle.image_build.proofs.Lines.{entries_before, entries_long, merged_long}

abbrev ended_length : List ℕ → ℕ
ended_length piece = length piece + 1

in_limit : (b : Bool) (why : Refusal) (bytes found : List ℕ) → nat_lt file_limit (length bytes) ≡ b
    → (let r : Result (List ℕ) Refusal = if b then Err why else Ok bytes in r) ≡ Ok found → length found ≤ 268435456
in_limit true why bytes found small is = cc
in_limit false why bytes found small is = subst (λ (l : List ℕ). length l ≤ 268435456) (cc is) (ltb-false 268435456 (length bytes) small)

read_limit : (path : Path) (there : Option (List ℕ)) (found : List ℕ) → readable_bytes path there ≡ Ok found → length found ≤ 268435456
read_limit path None found is = cc
read_limit path (Some bytes) found is = in_limit (nat_lt file_limit (length bytes)) _ bytes found refl is

given_limit : (view : Files) (source : Option Source) (found : List ℕ) → SourceIsShort source → given_sbat view source ≡ Ok found → length found ≤ 268435456
given_limit view None found short is = let same : [] ≡ found = cc is in subst (λ (l : List ℕ). length l ≤ 268435456) same (omega arith)
given_limit view (Some (sources.Said text)) found short is = let same : text ≡ found = cc is in subst (λ (l : List ℕ). length l ≤ 268435456) same short
given_limit view (Some (sources.At path)) found short is = read_limit path (get view path) found is

part_long : (file : List ℕ) (place count : ℕ) → length (part file place count) ≤ length file
part_long file place count = omega (arith, length-take count (drop place file), length-drop place file)

section_entries : (file : List ℕ) (found : Option Section) → sum_by ended_length (sbat_entries (loaded_of file found)) ≤ length file + 1
section_entries file None = omega (arith, entries_before [] 0)
section_entries file (Some s) =
    let r = range_of s in
    omega (arith, entries_before (part file r.place r.length) r.zeros, part_long file r.place r.length)

file_entries : (file : List ℕ) (read : Result Headers FailedCheck) → sum_by ended_length (sbat_entries (loaded_in file sbat_name read)) ≤ length file + 1
file_entries file (Err check) = omega (arith, entries_before [] 0)
file_entries file (Ok headers) = section_entries file (find (is_named sbat_name) headers.sections)

text_entries : (text : List ℕ) → sum_by ended_length (sbat_entries text) ≤ length text + 1
text_entries text = omega (arith, entries_long text, length-take (position_or_len (λ byte. byte == 0) text) text)

-- The SBAT text of an image is shorter than 4 GiB.
sbat_long : (contents : Contents) → length contents.stub ≤ 268435456 → length contents.linux ≤ 268435456 → length contents.sbat ≤ 268435456 → length (sbat_of contents) < 2 ^ 32
sbat_long contents stub linux given =
    omega (
      arith,
      stub,
      linux,
      given,
      merged_long (loaded_bytes contents.stub sbat_name) (loaded_bytes contents.linux sbat_name) contents.sbat,
      file_entries contents.stub (pe_of contents.stub),
      file_entries contents.linux (pe_of contents.linux),
      text_entries contents.sbat,
    )

pub builds_countable : BuildsAreCountable
builds_countable words build from built view is names read means =
    let bounds = build_bounded words build (named_as from) is names in
    let counts = counted from.parts.items built.parts.items read.parts bounds.parts in
    let found = bind_ok (contents_of view (named_as from)) material (material_as (contents view) built) means in
    let made = bind_ok (headers_or (pe_of found.0.stub)) _ (material_as (contents view) built) found.2 in
    let stub = bind_ok (bytes_at view from.stub) _ found.0 found.1 in
    let linux = bind_ok (bytes_at view from.linux) _ found.0 stub.2 in
    let parts = bind_ok (each (part_bytes view) (named_as from).parts) _ found.0 linux.2 in
    let sbat = bind_ok (given_sbat view from.sbat) _ found.0 parts.2 in
    let same : record { stub = stub.0; linux = linux.0; parts = parts.0; sbat = sbat.0 } ≡ found.0 = cc sbat.2 in
    let long =
    sbat_long (record { stub = stub.0; linux = linux.0; parts = parts.0; sbat = sbat.0 })
    (read_limit from.stub (get view from.stub) stub.0 stub.1) (read_limit from.linux (get view from.linux) linux.0 linux.1)
    (given_limit view from.sbat sbat.0 bounds.sbat sbat.1) in
    let whole : record { headers = made.0; stub = found.0.stub; linux = found.0.linux; parts = found.0.parts; sbat = sbat_of found.0 } ≡ material_as (contents view) built = cc made.2 in
    let text : sbat_of found.0 ≡ built.sbat.items = ap (λ (m : Material). m.sbat) whole in
    record {
      few = counts.few;
      total = counts.total;
      text = subst (λ (l : List ℕ). length l < 2 ^ 32) (ap sbat_of same ∙ text) long;
    }
