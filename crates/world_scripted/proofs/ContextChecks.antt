-- Small scenarios, computed: which contexts their lines give.
use Rattle.std.specs.Prelude.{codes}
use Rattle.std.specs.Str.{is_utf8, chars}
use Rattle.std.proofs.Math.Utf8.{encode}
use Rattle.std.proofs.Common.{◌≡◌, ℕ, Bool, true, false, List, [], ◌∷◌, ◌++◌, Ok, Err, refl}
use Rattle.std.specs.Fmt.{digits}
use Rattle.wasi_world.specs.declared.outcome.WasiSocketsCtx.{WasiSocketsCtx}
use Rattle.wasi_world.specs.declared.plan.Kind.TheVariants as kind
use Rattle.wasi_world.specs.declared.plan.Planned.TheVariants.{No}
use Rattle.world_scripted.specs.Queued.{no_answers, with_answer}
use Rattle.world_text.specs.Fields.{give, give_some, read_then, field_at, word_at, number_at, number_in}
use Rattle.world_scripted.specs.Scenario.{setup_within, scenario_of, kind_in, kind_at, answer_at, planned_at, planned_in, yes_or_no_at, limit_at, allowed_at, context_at, context_in}
use Rattle.wasi_world.specs.Contexts.{free_context, no_write_limit}

line : List ℕ → List ℕ
line text = text ++ 10 ∷ []

context : ℕ → Bool → Bool → Bool → WasiSocketsCtx
context number tcp udp lookup = record { name = number; ip_name_lookup = lookup; udp = udp; tcp = tcp; write_limit = no_write_limit }

no_line_gives_the_free_one : scenario_of [] ≡ Ok (no_answers, free_context ∷ [])
unfolding setup_within
no_line_gives_the_free_one = refl

two_are_numbered_in_order : scenario_of (line (codes "context yes no no") ++ line (codes "check no") ++ line (codes "context no yes yes")) ≡ Ok (with_answer no_answers kind.Check No, context 0 true false false ∷ context 1 false true true ∷ [])
unfolding setup_within line context kind_in kind_at answer_at planned_at planned_in yes_or_no_at limit_at number_at number_in digits allowed_at context_at context_in give give_some read_then field_at word_at is_utf8 chars encode
two_are_numbered_in_order = refl

another_word_is_a_bad_line : scenario_of (line (codes "context yes yes yes") ++ line (codes "context yes yes done")) ≡ Err 2
unfolding setup_within line kind_in kind_at answer_at planned_at planned_in yes_or_no_at limit_at number_at number_in digits allowed_at context_at context_in give give_some read_then field_at word_at is_utf8 chars encode
another_word_is_a_bad_line = refl

one_word_more_is_a_bad_line : scenario_of (line (codes "context yes yes yes yes")) ≡ Err 1
unfolding setup_within line kind_in kind_at answer_at planned_at planned_in yes_or_no_at limit_at number_at number_in digits allowed_at context_at context_in give give_some read_then field_at word_at is_utf8 chars encode
one_word_more_is_a_bad_line = refl

a_limit_may_be_written : scenario_of (line (codes "context yes no no 100")) ≡ Ok (no_answers, record { name = 0; ip_name_lookup = false; udp = false; tcp = true; write_limit = 100 } ∷ [])
unfolding setup_within line kind_in kind_at answer_at planned_at planned_in yes_or_no_at limit_at number_at number_in digits allowed_at context_at context_in give give_some read_then field_at word_at is_utf8 chars encode
a_limit_may_be_written = refl

a_limit_has_64_bits : scenario_of (line (codes "context yes no no 18446744073709551616")) ≡ Err 1
unfolding setup_within line kind_in kind_at answer_at planned_at planned_in yes_or_no_at limit_at number_at number_in digits allowed_at context_at context_in give give_some read_then field_at word_at is_utf8 chars encode
a_limit_has_64_bits = refl
