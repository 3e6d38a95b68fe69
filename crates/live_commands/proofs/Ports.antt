-- The ports in the words, word by word.
use Rattle.std.specs.Prelude.{option_map, map, take, drop}
use Rattle.std.specs.Option.{option_and_then}
use Rattle.std.proofs.Common.{◌≡◌, ℕ, List, [], ◌∷◌, ◌++◌, Option, Some, None, refl, ap, sym, ◌∙◌, ◌+◌, ◌<◌, length, get_or, append_assoc}
use Rattle.std.proofs.lemmas.List.{take_more, take-append-drop, map-append}
use Rattle.world_text.specs.Fields.{number_in}
use Rattle.live_commands.specs.Commands.{ports_in}

-- the ports of more words after some
abbrev join : Option (List ℕ) → Option (List ℕ) → Option (List ℕ)
join first second = option_and_then (λ xs. option_map (λ ys. xs ++ ys) second) first

join_front : (port : ℕ) (first second : Option (List ℕ)) → option_map (λ ports. port ∷ ports) (join first second) ≡ join (option_map (λ ports. port ∷ ports) first) second
join_front port None second = refl
join_front port (Some xs) None = refl
join_front port (Some xs) (Some ys) = refl

join_none : (second : Option (List ℕ)) → second ≡ join (Some []) second
join_none None = refl
join_none (Some ys) = refl

ports_append : (first second : List (List ℕ)) → ports_in (first ++ second) ≡ join (ports_in first) (ports_in second)
ports_append [] second = join_none (ports_in second)
ports_append (word ∷ first) second = by_word (number_in word 65535) (ports_append first second)
  where
    by_word : (o : Option ℕ) → ports_in (first ++ second) ≡ join (ports_in first) (ports_in second) → option_and_then (λ port. option_map (λ ports. port ∷ ports) (ports_in (first ++ second))) o ≡ join (option_and_then (λ port. option_map (λ ports. port ∷ ports) (ports_in first)) o) (ports_in second)
    by_word None h = refl
    by_word (Some port) h = ap (λ o. option_map (λ ports. port ∷ ports) o) h ∙ join_front port (ports_in first) (ports_in second)

-- one port more
pub ports_push : (words : List (List ℕ)) (word : List ℕ) (ports : List ℕ) (port : ℕ) → ports_in words ≡ Some ports → number_in word 65535 ≡ Some port → ports_in (words ++ word ∷ []) ≡ Some (ports ++ port ∷ [])
ports_push words word ports port h e = ports_append words (word ∷ []) ∙ rw (h, e) refl

-- a word that is no port
pub ports_stop : (words : List (List ℕ)) (word : List ℕ) (more : List (List ℕ)) (ports : List ℕ) → ports_in words ≡ Some ports → number_in word 65535 ≡ None → ports_in (words ++ word ∷ more) ≡ None
ports_stop words word more ports h e = ports_append words (word ∷ more) ∙ rw (h, e) refl

-- the words up to one, and all of them round it
pub words_more : {X : Type 0} (f : X → List ℕ) (words : List X) (i : ℕ) (word : X) → i < length words → word ≡ get_or words i word → map f (take (i + 1) words) ≡ map f (take i words) ++ f word ∷ []
words_more f words i word h e = ap (λ xs. map f xs) (take_more words i word h) ∙ map-append f (take i words) (get_or words i word ∷ []) ∙ ap (λ x. map f (take i words) ++ f x ∷ []) (sym e)

pub words_round : {X : Type 0} (f : X → List ℕ) (words : List X) (i : ℕ) (word : X) → i < length words → word ≡ get_or words i word → map f words ≡ map f (take i words) ++ f word ∷ map f (drop (i + 1) words)
words_round f words i word h e =
    ap (λ xs. map f xs) (sym (take-append-drop (i + 1) words)) ∙ map-append f (take (i + 1) words) (drop (i + 1) words)
    ∙ ap (λ xs. xs ++ map f (drop (i + 1) words)) (words_more f words i word h e)
    ∙ append_assoc (map f (take i words)) (f word ∷ []) (map f (drop (i + 1) words))
