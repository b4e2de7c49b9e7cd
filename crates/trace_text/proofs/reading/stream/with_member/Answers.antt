use Rattle.std.proofs.Common.{◌≡◌, string_bytes, rules, ap, ◌∙◌}
use Rattle.serde_json.specs.Data.{put}
use Rattle.serde_json.specs.View.{view, members_view}
use Rattle.serde_json.proofs.Views.{members_view-insert_entry}
use Rattle.trace_text.proofs.reading.stream.with_member.Goals as goal

pub returns-in-Ok : goal.returns-in-Ok
returns-in-Ok c =
    let copied : string_bytes c.in_ok-name.name ≡ c.args.key.now = search rules in
    ap (λ es. members_view es) c.in-Ok.ensures.entries
    ∙ (members_view-insert_entry c.args.members.entries c.in_ok-name.name c.args.value
    ∙ ap (λ k. put k (view c.args.value) (members_view c.args.members.entries)) copied)
