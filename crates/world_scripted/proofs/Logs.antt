-- Logs that are answered by a plan, with one entry more.
use Rattle.std.proofs.Common.{◌≡◌, List, [], ◌∷◌, ◌++◌, map, refl, sym, ap, ◌∙◌}
use Rattle.std.specs.Prelude.{fold}
use Rattle.std.proofs.lemmas.List.{map-append}
use Rattle.std.proofs.lemmas.List.Sums.{fold_push}
use mathlib.Core.Path.{fun_ext}
use Rattle.wasi_world.specs.declared.ids.OpId.{OpId}
use Rattle.wasi_world.specs.declared.call.Call.{Call}
use Rattle.wasi_world.specs.declared.call.Told.{Told}
use Rattle.wasi_world.specs.declared.call.Entry.{Entry}
use Rattle.wasi_world.specs.declared.sides.Side.{Side}
use Rattle.wasi_world.specs.Seen.{Plan}
use Rattle.wasi_world.specs.Kinds.{kind_of}
use Rattle.wasi_world.specs.Sides.{sides_after}
use Rattle.wasi_world.specs.Script.{Progress, start, after, answer, answers, as_planned, next_answer, waiting, plan_after, progress, IsScripted}

answers_push : (now : Progress) (log : List Entry) (e : Entry) → answers now (log ++ e ∷ []) ≡ answers now log ++ answer (fold after now log) e.call ∷ []
answers_push now [] e = refl
answers_push now (first ∷ log) e = ap (λ rest. answer now first.call ∷ rest) (answers_push (after now first) log e)

progress_push : (plan : Plan) (log : List Entry) (e : Entry) → progress plan (log ++ e ∷ []) ≡ after (progress plan log) e
progress_push plan log e = fold_push after (start plan) log e

-- Where a world has come so far, it is there after one entry more too. now is the log with that entry, as it is.
module _ (plan left : Plan) (known : OpId → Side) (log now : List Entry) (op : OpId) (call : Call) (told : Told)
    (left_now : left ≡ (progress plan log).left) (sides_now : (sock : OpId) → known sock ≡ (progress plan log).sides sock)
    (pushed : now ≡ log ++ record { op = op; call = call; answer = told } ∷ []) where
  here : (let p : Progress = record { left = left; sides = known } in p) ≡ progress plan log
  here = ap (λ l. let p : Progress = record { left = l; sides = known } in p) left_now ∙ ap (λ s. let p : Progress = record { left = (progress plan log).left; sides = s } in p) (fun_ext sides_now)

  there : after (record { left = left; sides = known }) (record { op = op; call = call; answer = told }) ≡ progress plan now
  there = ap (λ p. after p (record { op = op; call = call; answer = told })) here ∙ (sym (progress_push plan log _) ∙ ap (progress plan) (sym pushed))

  pub left_push : plan_after left call ≡ (progress plan now).left
  left_push = ap (λ p. p.left) there

  pub sides_push : (sock : OpId) → sides_after known op call told sock ≡ (progress plan now).sides sock
  sides_push sock = ap (λ p. p.sides sock) there

  answered : IsScripted plan log → as_planned told ≡ next_answer (waiting left (kind_of call)) known call → map (λ e. as_planned e.answer) log ++ as_planned told ∷ [] ≡ answers (start plan) (log ++ record { op = op; call = call; answer = told } ∷ [])
  answered scripted h =
      ap (λ as_told. as_told ++ as_planned told ∷ []) scripted
      ∙ (ap (λ p. answers (start plan) log ++ p ∷ []) (h ∙ ap (λ p. answer p call) here)
      ∙ sym (answers_push (start plan) log _))

  pub scripted_push : as_planned told ≡ next_answer (waiting left (kind_of call)) known call → IsScripted plan log → IsScripted plan now
  scripted_push h scripted =
      ap (map (λ e. as_planned e.answer)) pushed ∙ (map-append (λ e. as_planned e.answer) log _ ∙ (answered scripted h ∙ sym (ap (answers (start plan)) pushed)))
