-- Questions are answered line by line.
use Rattle.std.proofs.Common.{◌≡◌, ℕ, ◌+◌, ◌-◌, ◌^◌, ◌<◌, ◌≤◌, ◌==◌, length, take, drop, length-drop, Ok, Err, ap, arith, List, [], ◌∷◌, ◌++◌, Some, None, refl, sym, ◌∙◌, append-nil, append_assoc, length-append, zero-add, suc}
use Rattle.std.specs.List.{position}
use Rattle.std.proofs.lemmas.List.{drop-drop, take_rest, take-append-le}
use Rattle.world_io.specs.Io.{Writing}
use Rattle.world_io.specs.Written.{TookAll, TookPart}
use Rattle.world_io.proofs.Took.{took_again, rose_again, all_none, all_again}
use Rattle.world_text.specs.Lines.{lines_of, rest_of}
use Rattle.world_text.proofs.LinesOf.{Cut, NoCut, cut_at, no_cut, cut_line, cut_after, cut_within}
use Rattle.wasi_policy.specs.declared.rule.Rule.{Rule}
use Rattle.policy_asks.specs.declared.answer.Form.{Form}
use Rattle.policy_asks.specs.declared.asking.AskError.{AskError}
use Rattle.policy_asks.specs.declared.asking.AskError.TheVariants as error
use Rattle.policy_asks.specs.declared.question.Question.{Question}
use Rattle.policy_asks.specs.Answer.{answer_line}
use Rattle.policy_asks.specs.Asked.{Answers, answers_then, answers_from, answers, LinesEnd}
use Rattle.policy_asks.specs.OneLine.{LineEnds}
use Rattle.policy_asks.specs.Question.{question_in}

-- The lines before a place of the text are answered: this is the number of the next line.
pub record AnsweredTo (rules : List Rule) (form : Form) (text : List ℕ) (at number : ℕ) (k_old k_now : Writing) : Type 0 where
  pub within : at ≤ length text
  pub done : List ℕ
  pub written : (answers rules form text).written ≡ done ++ (answers_from rules form number (lines_of (drop at text))).written
  pub bad : (answers rules form text).bad ≡ (answers_from rules form number (lines_of (drop at text))).bad
  pub rest : rest_of text ≡ rest_of (drop at text)
  pub count : number + length (lines_of (drop at text)) ≡ length (lines_of text) + 1
  pub few : number ≤ at + 1
  pub took : TookAll k_old done k_now

pub answered_none : (rules : List Rule) (form : Form) (text : List ℕ) (k : Writing) → AnsweredTo rules form text 0 1 k k
answered_none rules form text k = record {
  within = omega arith;
  done = [];
  written = refl;
  bad = refl;
  rest = refl;
  count = omega arith;
  few = omega arith;
  took = all_none k;
}

take_front : (n : ℕ) (xs ys : List ℕ) → n ≤ length xs → take n (xs ++ ys) ≡ take n xs
take_front n xs ys h = take-append-le n xs ys h

done_more : (xs : List ℕ) (n : ℕ) (ys : List ℕ) → take (length xs + n) (xs ++ ys) ≡ xs ++ take n ys
done_more [] n ys = rw zero-add refl
done_more (x ∷ xs) n ys = let same : length (x ∷ xs) + n ≡ suc (length xs + n) = omega arith in rw same (ap (λ l. x ∷ l) (done_more xs n ys))

empty : (xs : List ℕ) → length xs ≤ 0 → xs ≡ []
empty [] h = refl
empty (x ∷ xs) h = absurd (omega arith)

-- the bytes after so many: a line and more
module _ (rules : List Rule) (form : Form) (text : List ℕ) (at number end : ℕ) (k_old k_now : Writing) (now : AnsweredTo rules form text at number k_old k_now) (found : Some end ≡ position (λ b. b == 10) (take (length text - at) (drop at text))) where
  cut : Cut [] (drop at text) end
  cut = cut_at [] (drop at text) end (ap (position (λ b. b == 10)) (sym (take_rest text at)) ∙ sym found)

  line_is : take ((at + end) - at) (drop at text) ≡ cut.line
  line_is = let same : (at + end) - at ≡ end = omega arith in rw same (cut_line [] (drop at text) end cut)

  after_is : drop (at + (end + 1)) text ≡ cut.after
  after_is = sym (drop-drop (end + 1) at text) ∙ cut_after [] (drop at text) end cut

  here : answers_from rules form number (lines_of (drop at text)) ≡ answers_then rules form number (question_in (take ((at + end) - at) (drop at text))) (answers_from rules form (number + 1) (lines_of (drop (at + (end + 1)) text)))
  here = rw (line_is, after_is) (ap (answers_from rules form number) cut.lines)

  pub number_fits : length text < 2 ^ 32 → number < 2 ^ 32
  number_fits h = omega (arith, now.few, cut_within [] (drop at text) end cut, length-drop at text)

  -- a question
  module _ (q : Question) (is : question_in (take ((at + end) - at) (drop at text)) ≡ Some q) where
    answered_is : answers_from rules form number (lines_of (drop at text)) ≡ record { written = answer_line rules form q ++ (answers_from rules form (number + 1) (lines_of (drop (at + (end + 1)) text))).written; bad = (answers_from rules form (number + 1) (lines_of (drop (at + (end + 1)) text))).bad }
    answered_is = here ∙ ap (λ o. answers_then rules form number o (answers_from rules form (number + 1) (lines_of (drop (at + (end + 1)) text)))) is

    written_is : (answers rules form text).written ≡ now.done ++ (answer_line rules form q ++ (answers_from rules form (number + 1) (lines_of (drop (at + (end + 1)) text))).written)
    written_is = now.written ∙ ap (λ (a : Answers). now.done ++ a.written) answered_is

    next_answered : (k_new : Writing) → TookAll k_now (answer_line rules form q) k_new → AnsweredTo rules form text (at + (end + 1)) (number + 1) k_old k_new
    next_answered k_new took = record {
      within = omega (arith, cut_within [] (drop at text) end cut, length-drop at text, now.within);
      done = now.done ++ answer_line rules form q;
      written = written_is ∙ sym (append_assoc now.done (answer_line rules form q) _);
      bad = now.bad ∙ ap (λ (a : Answers). a.bad) answered_is;
      rest = now.rest ∙ (cut.rest ∙ ap rest_of (sym after_is));
      count = rw after_is (omega (arith, now.count, ap length cut.lines));
      few = omega (arith, now.few);
      took = all_again now.took took;
    }

    front_fault : (k_new : Writing) → TookPart k_now (answer_line rules form q) k_new → TookPart k_old (answers rules form text).written k_new
    front_fault k_new front = rw written_is (record {
      cut = length now.done + front.cut;
      short = omega (arith, front.short, length-append now.done (answer_line rules form q ++ (answers_from rules form (number + 1) (lines_of (drop (at + (end + 1)) text))).written), length-append (answer_line rules form q) (answers_from rules form (number + 1) (lines_of (drop (at + (end + 1)) text))).written);
      took = rw (done_more now.done front.cut (answer_line rules form q ++ (answers_from rules form (number + 1) (lines_of (drop (at + (end + 1)) text))).written), take_front front.cut (answer_line rules form q) (answers_from rules form (number + 1) (lines_of (drop (at + (end + 1)) text))).written (omega (arith, front.short))) (took_again now.took.took front.took);
      counts = rose_again now.took.counts front.counts;
      tells = front.tells ∙ now.took.tells;
    })

  pub read_next : (k_new : Writing) → LineEnds rules form number (take ((at + end) - at) (drop at text)) k_now k_new (Ok tt) → AnsweredTo rules form text (at + (end + 1)) (number + 1) k_old k_new
  read_next k_new h = next_answered h.question h.is k_new h.took

  pub line_exit : (k_new : Writing) (e : AskError) → LineEnds rules form number (take ((at + end) - at) (drop at text)) k_now k_new (Err e) → LinesEnd rules form text k_old k_new (Err e)
  line_exit k_new (error.BadLine n) h =
      let stops : answers_from rules form number (lines_of (drop at text)) ≡ record { written = []; bad = Some number } = here ∙ ap (λ o. answers_then rules form number o (answers_from rules form (number + 1) (lines_of (drop (at + (end + 1)) text)))) h.1 in
      let all : (answers rules form text).written ≡ now.done = now.written ∙ (ap (λ (a : Answers). now.done ++ a.written) stops ∙ append-nil now.done) in
      rw (h.0, h.2, all) (now.bad ∙ ap (λ (a : Answers). a.bad) stops, now.took)
  line_exit k_new error.WriteFault h = front_fault h.question h.is k_new h.took
  line_exit k_new error.Memory h = rw h (record { taken = now.done; rest = (answers_from rules form number (lines_of (drop at text))).written; split = now.written; took = now.took.took })
  line_exit k_new error.TooLong h = absurd h
  line_exit k_new error.ReadFault h = absurd h

-- the bytes after so many have no newline
module _ (rules : List Rule) (form : Form) (text : List ℕ) (at number : ℕ) (k_old k_now : Writing) (now : AnsweredTo rules form text at number k_old k_now) (found : None ≡ position (λ b. b == 10) (take (length text - at) (drop at text))) where
  over : NoCut [] (drop at text)
  over = no_cut [] (drop at text) (ap (position (λ b. b == 10)) (sym (take_rest text at)) ∙ sym found)

  rest_is : rest_of text ≡ drop at text
  rest_is = now.rest ∙ over.rest

  nothing_more : answers_from rules form number (lines_of (drop at text)) ≡ record { written = []; bad = None }
  nothing_more = ap (answers_from rules form number) over.lines

  all_done : ((answers rules form text).bad ≡ None) × TookAll k_old (answers rules form text).written k_now
  all_done =
      let all : (answers rules form text).written ≡ now.done = now.written ∙ (ap (λ (a : Answers). now.done ++ a.written) nothing_more ∙ append-nil now.done) in
      (now.bad ∙ ap (λ (a : Answers). a.bad) nothing_more, rw all now.took)

  pub whole_text : length text ≤ at → LinesEnd rules form text k_old k_now (Ok None)
  whole_text h = (all_done.0, all_done.1, rest_is ∙ empty (drop at text) (omega (arith, length-drop at text)))

  pub more_text : at < length text → LinesEnd rules form text k_old k_now (Ok (Some number))
  more_text h = (all_done.0, all_done.1, ((λ e. let none : length (drop at text) ≡ 0 = ap length (sym rest_is ∙ e) in absurd (omega (arith, none, length-drop at text))), omega (arith, now.count, ap length over.lines)))
