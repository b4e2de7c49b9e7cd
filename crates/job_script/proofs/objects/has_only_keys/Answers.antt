use Rattle.std.proofs.Common.{◌≡◌, ◌∙◌, Some, rules}
use Rattle.serde_json.specs.Find.{as_object}
use Rattle.serde_json.specs.View.{view, members_view}
use Rattle.job_script.proofs.Keys.{only_keys_entries}
use Rattle.job_script.proofs.objects.has_only_keys.Goals as goal

pub returns-in-Some : goal.returns-in-Some
returns-in-Some c =
    let object : as_object (view c.args.value.now) ≡ Some (members_view c.in-Some.members.now.entries) = search rules in
    rw object (c.all_among.ensures ∙ only_keys_entries c.args.names.now c.in-Some.members.now.entries)
