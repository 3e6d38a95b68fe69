use Rattle.std.specs.Prelude.{take}
use Rattle.std.proofs.Common.{◌≡◌, ◌-◌, length, ap, ◌∙◌, string_bytes}
use Rattle.policy_asks.specs.Findings.{unmatched_text, shadowed_text, overlaps_text, rest_text}
use Rattle.policy_asks.proofs.ListedText.{four_parts}
use Rattle.policy_asks.proofs.findings.listed_text.Goals as goal

pub returns : goal.returns
returns c =
    let room : c.saturating_sub-room.result ≡ 1000 - length c.args.unmatched.now = c.saturating_sub-room.ensures in
    let least : c.saturating_sub-least.result ≡ 1000 - length c.args.unmatched.now - length c.args.shadowed.now = c.saturating_sub-least.ensures ∙ ap (λ n. n - length c.args.shadowed.now) room in
    let unmatched : unmatched_text c.first_lines.result.now ≡ unmatched_text (take 1000 c.args.unmatched.now) = ap unmatched_text c.first_lines.ensures in
    let shadowed : shadowed_text c.first_lines-2.result.now ≡ shadowed_text (take (1000 - length c.args.unmatched.now) c.args.shadowed.now) = ap shadowed_text (c.first_lines-2.ensures ∙ ap (λ n. take n c.args.shadowed.now) room) in
    let overlaps : overlaps_text c.first_pairs.result.now ≡ overlaps_text (take (1000 - length c.args.unmatched.now - length c.args.shadowed.now) c.args.conflicts.now.first.items) =
    ap overlaps_text (c.first_pairs.ensures ∙ (ap (λ n. take n c.as_slice.result.now) least ∙ ap (λ pairs. take (1000 - length c.args.unmatched.now - length c.args.shadowed.now) pairs) c.as_slice.ensures.value)) in
    let rest : rest_text c.saturating_sub.result ≡ rest_text (c.args.count - 1000) = ap rest_text c.saturating_sub.ensures in
    rw (← unmatched, ← shadowed, ← overlaps, ← rest) (four_parts (string_bytes c.new-text.result) (string_bytes c.add_unmatched.new.text) (string_bytes c.add_shadowed.new.text) (string_bytes c.add_overlaps.new.text) (string_bytes c.add_rest.new.text)
    (unmatched_text c.first_lines.result.now) (shadowed_text c.first_lines-2.result.now) (overlaps_text c.first_pairs.result.now) (rest_text c.saturating_sub.result)
    c.new-text.ensures.bytes c.in_ok-add_unmatched.ensures c.in_ok-add_shadowed.ensures c.in_ok-add_overlaps.ensures c.in_ok-add_rest.ensures)
