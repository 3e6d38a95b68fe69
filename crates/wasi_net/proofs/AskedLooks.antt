-- What the system is asked for some looks, look by look.
use Rattle.std.specs.Prelude.{option_map, take, drop}
use Rattle.std.specs.Option.{option_and_then}
use Rattle.std.proofs.Common.{◌≡◌, ℕ, List, [], ◌∷◌, ◌++◌, Option, Some, None, refl, ap, sym, ◌∙◌, ◌+◌, ◌<◌, length, get_or, append_assoc}
use Rattle.std.proofs.lemmas.List.{take_more, take-append-drop}
use Rattle.libc.specs.declared.types.pollfd.{pollfd}
use Rattle.wasi_looks.specs.declared.look.Look.{Look}
use Rattle.wasi_net.specs.Awaited.{asked_of, asked_by}
use Rattle.wasi_net.specs.Known.{Sides}

-- what is asked for more looks after some
abbrev join : Option (List pollfd) → Option (List pollfd) → Option (List pollfd)
join first second = option_and_then (λ xs. option_map (λ ys. xs ++ ys) second) first

join_front : (fd : pollfd) (first second : Option (List pollfd)) → option_map (λ fds. fd ∷ fds) (join first second) ≡ join (option_map (λ fds. fd ∷ fds) first) second
join_front fd None second = refl
join_front fd (Some xs) None = refl
join_front fd (Some xs) (Some ys) = refl

join_none : (second : Option (List pollfd)) → second ≡ join (Some []) second
join_none None = refl
join_none (Some ys) = refl

asked_append : (sides : Sides) (first second : List Look) → asked_by sides (first ++ second) ≡ join (asked_by sides first) (asked_by sides second)
asked_append sides [] second = join_none (asked_by sides second)
asked_append sides (look ∷ first) second = by_look (asked_of (sides look.sock) look.readiness) (asked_append sides first second)
  where
    by_look : (o : Option pollfd) → asked_by sides (first ++ second) ≡ join (asked_by sides first) (asked_by sides second) → option_and_then (λ fd. option_map (λ fds. fd ∷ fds) (asked_by sides (first ++ second))) o ≡ join (option_and_then (λ fd. option_map (λ fds. fd ∷ fds) (asked_by sides first)) o) (asked_by sides second)
    by_look None h = refl
    by_look (Some fd) h = ap (λ o. option_map (λ fds. fd ∷ fds) o) h ∙ join_front fd (asked_by sides first) (asked_by sides second)

-- one more that is asked for, and one that needn't wait
asked_push : (sides : Sides) (looks : List Look) (look : Look) (fds : List pollfd) (fd : pollfd) → asked_by sides looks ≡ Some fds → asked_of (sides look.sock) look.readiness ≡ Some fd → asked_by sides (looks ++ look ∷ []) ≡ Some (fds ++ fd ∷ [])
asked_push sides looks look fds fd h e = asked_append sides looks (look ∷ []) ∙ rw (h, e) refl

asked_stop : (sides : Sides) (looks : List Look) (look : Look) (more : List Look) (fds : List pollfd) → asked_by sides looks ≡ Some fds → asked_of (sides look.sock) look.readiness ≡ None → asked_by sides (looks ++ look ∷ more) ≡ None
asked_stop sides looks look more fds h e = asked_append sides looks (look ∷ more) ∙ rw (h, e) refl

-- the looks up to one, and all of them round it
looks_round : (looks : List Look) (i : ℕ) (d : Look) → i < length looks → looks ≡ take i looks ++ get_or looks i d ∷ drop (i + 1) looks
looks_round looks i d h =
    sym (take-append-drop (i + 1) looks) ∙ ap (λ xs. xs ++ drop (i + 1) looks) (take_more looks i d h) ∙ append_assoc (take i looks) (get_or looks i d ∷ []) (drop (i + 1) looks)

pub asked_next : (sides : Sides) (looks : List Look) {i : ℕ} (d : Look) {fds now : List pollfd} {fd : pollfd} {told : Option pollfd} → i < length looks → asked_by sides (take i looks) ≡ Some fds → told ≡ asked_of (sides (get_or looks i d).sock) (get_or looks i d).readiness → told ≡ Some fd → now ≡ fds ++ fd ∷ [] → asked_by sides (take (i + 1) looks) ≡ Some now
asked_next sides looks {i} d {fds} {fd = fd} h before told some now = ap (asked_by sides) (take_more looks i d h) ∙ asked_push sides (take i looks) (get_or looks i d) fds fd before (sym told ∙ some) ∙ ap (λ fds. Some fds) (sym now)

pub asked_over : (sides : Sides) (looks : List Look) {i : ℕ} (d : Look) {fds : List pollfd} {told : Option pollfd} → i < length looks → asked_by sides (take i looks) ≡ Some fds → told ≡ asked_of (sides (get_or looks i d).sock) (get_or looks i d).readiness → told ≡ None → None ≡ asked_by sides looks
asked_over sides looks {i} d {fds} h before told none = sym (ap (asked_by sides) (looks_round looks i d h) ∙ asked_stop sides (take i looks) (get_or looks i d) (drop (i + 1) looks) fds before (sym told ∙ none))
