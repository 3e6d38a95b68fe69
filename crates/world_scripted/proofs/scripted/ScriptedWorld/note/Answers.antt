use Rattle.std.proofs.Common.{◌≡◌, ◌++◌, ◌∷◌, [], refl, ◌∙◌}
use Rattle.world_scripted.specs.Known.{known}
use Rattle.world_scripted.specs.Scripted.{stage_of}
use Rattle.world_scripted.proofs.Armed.{unarmed_left, unarmed_told, stays_unarmed}
use Rattle.world_scripted.proofs.Logs.{left_push, sides_push, scripted_push}
use Rattle.world_scripted.proofs.scripted.ScriptedWorld.note.Goals as goal

pub invariant_of-self-2 : goal.invariant_of-self-2
invariant_of-self-2 c =
    let was = c.args.self.now in
    let pushed : c.push_reserved.new.self.items ≡ was.log.items ++ record { op = c.args.op; call = c.args.call; answer = c.args.answer } ∷ [] =
    c.push_reserved.ensures.items ∙ rw c.reserve.ensures.items refl in
    rw c.advance.ensures (record {
      unarmed = λ h. rw c.after-self.ensures (stays_unarmed was.armed c.args.call (was.unarmed h));
      left = λ h. unarmed_left was.armed was.lists.left c.args.call (was.unarmed h) ∙ left_push was.lists.all was.lists.left (known was.sides) was.log.items _ c.args.op c.args.call c.args.answer (was.left h) (was.sides_known h) pushed;
      sides_known = λ h sock. c.in_ok-keep.ensures.ok sock ∙ sides_push was.lists.all was.lists.left (known was.sides) was.log.items _ c.args.op c.args.call c.args.answer (was.left h) (was.sides_known h) pushed sock;
      scripted = λ h. scripted_push was.lists.all was.lists.left (known was.sides) was.log.items _ c.args.op c.args.call c.args.answer (was.left h) (was.sides_known h) pushed (c.requires ∙ unarmed_told (stage_of was) c.args.call (was.unarmed h)) (was.scripted h);
    })
