-- Each line of a generated script is a step.
use Rattle.wasi_run.proofs.Words.{◌/◌, ◌%◌, ◌^◌, ◌==◌, replicate, slice_index_or, ◌≡◌, ℕ, zero, suc, ◌+◌, ◌*◌, ◌<◌, ◌≤◌, true, false, List, [], ◌∷◌, ◌++◌, Some, length, refl, ap, sym, ◌∙◌, append_assoc, append-nil, length-append, add-one, arith, and_parts, nat_tests, lines_from, lines_of, rest_from, rest_of, Step, IsStep, line_of, step_of, AllSteps}
use Rattle.std.proofs.Common.{IsTrue}
use Rattle.std.specs.List.{list_all}
use Rattle.world_text.specs.Written.{AreBytes}
use Rattle.wasi_steps.specs.Names.{ends_no_line}
use Rattle.wasi_steps.specs.declared.guest_call.GuestCall.TheVariants as guest
use Rattle.wasi_steps.specs.declared.guest_call.PollableCall.TheVariants as pollable_call
use Rattle.wasi_steps.proofs.NameLaws.{text_unbroken}
use Rattle.wasi_run.specs.Script.{IsValid}
use Rattle.wasi_steps.proofs.SettingLaws.{◌and◌}
use Rattle.wasi_steps.proofs.StepLaws.{step_of_line, step_line_text}
use Rattle.drawn_scripts.specs.declared.drawn.Drawn.{Drawn}
use Rattle.drawn_scripts.specs.declared.drawn.Block.{Block}
use Rattle.drawn_scripts.specs.declared.drawn.Block.TheVariants as of
use Rattle.drawn_scripts.specs.Generate.{block, block_at, byte_of, bytes_of, call, count_of, drawn, port_of, step_in, tcp2_block, tcp3_block, udp_block, generated_step, generated_steps, generated, script_text}

-- == lines with no newline in them
no_newline : (b : ℕ) → ends_no_line b ≡ true → (b == 10) ≡ false
no_newline b h = grind (arith, nat_tests)

-- such a line ends where its newline is
line_ends : (front line rest : List ℕ) → IsTrue (list_all ends_no_line line) → (lines_from front (line ++ 10 ∷ rest) ≡ (front ++ line) ∷ lines_of rest) × (rest_from front (line ++ 10 ∷ rest) ≡ rest_of rest)
line_ends front [] rest h = (ap (λ first. first ∷ lines_of rest) (sym (append-nil front)), refl)
line_ends front (b ∷ line) rest h =
    let both = and_parts (ends_no_line b) _ h in
    let more = line_ends (front ++ b ∷ []) line rest both.1 in
    (rw (no_newline b both.0) (more.0 ∙ ap (λ first. first ∷ lines_of rest) (append_assoc front (b ∷ []) line)), rw (no_newline b both.0) more.1)

-- == the text of steps
abbrev AreSteps : List Step → Type 0
AreSteps [] = Unit {0}
AreSteps (s ∷ steps) = IsStep 1 s × AreSteps steps

are_more : (steps : List Step) (s : Step) → AreSteps steps → IsStep 1 s → AreSteps (steps ++ s ∷ [])
are_more [] s h k = (k, tt)
are_more (x ∷ steps) s h k = (h.0, are_more steps s h.1 k)

-- the first line of a text of steps, and the others
text_joined : (s : Step) (steps : List Step) → script_text (s ∷ steps) ≡ line_of s ++ 10 ∷ script_text steps
text_joined s steps = append_assoc (line_of s) (10 ∷ []) (script_text steps)

text_count : (steps : List Step) → AreSteps steps → length (lines_of (script_text steps)) ≡ length steps
text_count [] h = refl
text_count (s ∷ steps) h =
    let is : step_of 1 (line_of s) ≡ Some s = step_of_line 1 (line_of s) s (refl, h.0) in
    let ends = line_ends [] (line_of s) (script_text steps) (text_unbroken (line_of s) (step_line_text 1 (line_of s) s is)) in
    rw (text_joined s steps, ends.0, text_count steps h.1) refl

text_steps : (steps : List Step) → AreSteps steps → AllSteps 1 (lines_of (script_text steps)) × (rest_of (script_text steps) ≡ [])
text_steps [] h = (tt, refl)
text_steps (s ∷ steps) h =
    let is : step_of 1 (line_of s) ≡ Some s = step_of_line 1 (line_of s) s (refl, h.0) in
    let more = text_steps steps h.1 in
    let ends = line_ends [] (line_of s) (script_text steps) (text_unbroken (line_of s) (step_line_text 1 (line_of s) s is)) in
    (rw (text_joined s steps, ends.0) ((s, is), more.0), rw (text_joined s steps, ends.1) more.1)

-- == the steps of a block
are_bytes : (n b : ℕ) → b < 256 → AreBytes (replicate n b)
are_bytes zero b h i = omega arith
are_bytes (suc n) b h zero = h
are_bytes (suc n) b h (suc i) = are_bytes n b h i

wide_bytes : (x : ℕ) → x < 2 ^ 64 → AreBytes (bytes_of x)
wide_bytes x wide = are_bytes (count_of x) (byte_of x) (omega (arith, wide))

fits_in : (steps : List Step) (i : ℕ) (d : Step) → AreSteps steps → IsStep 1 d → IsStep 1 (slice_index_or steps i d)
unfolding AreSteps
fits_in [] i d h k = k
fits_in (s ∷ steps) zero d h k = h.0
fits_in (s ∷ steps) (suc i) d h k = fits_in steps i d h.1 k

drop_fits : (h : ℕ) → h ≤ 4294967295 → IsStep 1 (call (guest.Pollable (pollable_call.Drop h)))
drop_fits h e = record { context = omega arith; width = omega arith; arguments = (e, tt) }

port_fits : (x : ℕ) → port_of x ≤ 65535
port_fits x = omega arith

tcp2_fits : (s x : ℕ) → s + 2 ≤ 4294967295 → x < 2 ^ 64 → AreSteps (tcp2_block s x)
unfolding AreSteps
tcp2_fits s x room wide =
    record { context = omega arith; width = omega arith; arguments = (tt, tt) }
    and record { context = omega arith; width = omega arith; arguments = (omega (arith, room), (omega arith, (((omega arith, omega arith, omega arith, omega arith), port_fits x), tt))) }
    and record { context = omega arith; width = omega arith; arguments = (omega (arith, room), tt) }
    and record { context = omega arith; width = omega arith; arguments = (room, tt) }
    and record { context = omega arith; width = omega arith; arguments = (room, (wide_bytes x wide, tt)) }
    and record { context = omega arith; width = omega arith; arguments = (omega (arith, room), (tt, tt)) }
    and drop_fits (s + 1) (omega (arith, room))
    and drop_fits (s + 2) room
    and drop_fits s (omega (arith, room))
    and tt

tcp3_fits : (s x : ℕ) → s + 2 ≤ 4294967295 → x < 2 ^ 64 → AreSteps (tcp3_block s x)
unfolding AreSteps
tcp3_fits s x room wide =
    record { context = omega arith; width = omega arith; arguments = (tt, tt) }
    and record { context = omega arith; width = omega arith; arguments = (omega (arith, room), (((omega arith, omega arith, omega arith, omega arith), port_fits x), tt)) }
    and record { context = omega arith; width = omega arith; arguments = (omega (arith, room), tt) }
    and record { context = omega arith; width = omega arith; arguments = (omega (arith, room), (wide_bytes x wide, tt)) }
    and record { context = omega arith; width = omega arith; arguments = (omega (arith, room), tt) }
    and drop_fits (s + 1) (omega (arith, room))
    and record { context = omega arith; width = omega arith; arguments = (room, tt) }
    and record { context = omega arith; width = omega arith; arguments = (omega (arith, room), tt) }
    and drop_fits s (omega (arith, room))
    and tt

udp_fits : (s x before : ℕ) → s + 2 ≤ 4294967295 → x < 2 ^ 64 → before ≤ 4294967295 → AreSteps (udp_block s x before)
unfolding AreSteps
udp_fits s x before room wide few =
    record { context = omega arith; width = omega arith; arguments = (tt, tt) }
    and record { context = omega arith; width = omega arith; arguments = (omega (arith, room), ((((omega arith, omega arith, omega arith, omega arith), port_fits x), wide_bytes x wide), tt)) }
    and record { context = omega arith; width = omega arith; arguments = (omega (arith, room), tt) }
    and record { context = tt; width = tt; arguments = (few, tt) }
    and record { context = omega arith; width = omega arith; arguments = (tt, tt) }
    and record { context = omega arith; width = omega arith; arguments = (omega (arith, room), tt) }
    and drop_fits (s + 2) room
    and drop_fits (s + 1) (omega (arith, room))
    and drop_fits s (omega (arith, room))
    and tt

block_fits : (kind : Block) (s x before : ℕ) → s + 2 ≤ 4294967295 → x < 2 ^ 64 → before ≤ 4294967295 → AreSteps (block kind s x before)
block_fits of.Tcp2 s x before room wide few = tcp2_fits s x room wide
block_fits of.Tcp3 s x before room wide few = tcp3_fits s x room wide
block_fits of.Udp s x before room wide few = udp_fits s x before room wide few

-- == the steps of a script
drawn_fits : (seed n : ℕ) → seed < 2 ^ 64 → drawn seed n < 2 ^ 64
drawn_fits seed zero h = h
drawn_fits seed (suc n) h = omega arith

step_fits : (kind : Drawn) (seed k : ℕ) → seed < 2 ^ 64 → k < 2 ^ 32 → IsStep 1 (generated_step kind seed k)
step_fits kind seed zero h few = record { context = omega arith; width = omega arith; arguments = tt }
step_fits kind seed (suc k) h few =
    let room : 2 + 3 * (k / 9) + 2 ≤ 4294967295 = omega (arith, few) in
    let are = block_fits (block_at kind (k / 9)) (2 + 3 * (k / 9)) (drawn seed (k / 9 + 1)) (suc k) room (drawn_fits seed (k / 9 + 1) h) (omega (arith, few)) in
    fits_in _ (k % 9) _ are (drop_fits (2 + 3 * (k / 9)) (omega (arith, room)))

are_generated : (kind : Drawn) (seed n : ℕ) → seed < 2 ^ 64 → n < 2 ^ 32 → AreSteps (generated_steps kind seed n)
are_generated kind seed zero h few = tt
are_generated kind seed (suc n) h few = are_more (generated_steps kind seed n) (generated_step kind seed n) (are_generated kind seed n h (omega (arith, few))) (step_fits kind seed n h (omega (arith, few)))

-- a generated script is valid, within its own length
pub generated_valid : (kind : Drawn) (seed n : ℕ) → seed < 2 ^ 64 → n < 2 ^ 32 → IsValid 1 (length (generated kind seed n)) (generated kind seed n)
generated_valid kind seed n h few =
    let all = text_steps (generated_steps kind seed n) (are_generated kind seed n h few) in
    record { within = omega arith; ended = all.1; steps = all.0 }

step_count : (kind : Drawn) (seed n : ℕ) → length (generated_steps kind seed n) ≡ n
step_count kind seed zero = refl
step_count kind seed (suc n) = length-append (generated_steps kind seed n) (generated_step kind seed n ∷ []) ∙ rw (step_count kind seed n) (add-one n)

-- it has so many lines
pub generated_lines : (kind : Drawn) (seed n : ℕ) → seed < 2 ^ 64 → n < 2 ^ 32 → length (lines_of (generated kind seed n)) ≡ n
generated_lines kind seed n h few = text_count (generated_steps kind seed n) (are_generated kind seed n h few) ∙ step_count kind seed n
