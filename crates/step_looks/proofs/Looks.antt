-- The looks of some outlooks, outlook by outlook.
use Rattle.std.specs.Prelude.{option_map, map, take, drop}
use Rattle.std.proofs.Common.{◌≡◌, ℕ, append-nil, Bool, true, false, List, [], ◌∷◌, ◌++◌, Option, Some, None, refl, ap, sym, subst, ◌∙◌, ◌+◌, ◌<◌, length, get_or, append_assoc}
use Rattle.std.proofs.lemmas.List.{take_more, take-append-drop, map-append}
use Rattle.wasi_looks.specs.declared.look.Look.{Look}
use Rattle.step_looks.specs.declared.outlook.Outlook.{Outlook}
use Rattle.step_looks.specs.declared.outlook.Outlook.TheVariants.{Ready, Held, On}
use Rattle.step_looks.specs.Outlooks.{with_outlook, looks_in, added_to, Added}

-- after some looks
abbrev before : List Look → Option (List Look) → Option (List Look)
before looks more = option_map (λ all. looks ++ all) more

some_same : {A : Type 0} {x y : A} → Some x ≡ Some y → x ≡ y
some_same h = cc

before_none : (more : Option (List Look)) → before [] more ≡ more
before_none None = refl
before_none (Some all) = refl

before_one : (look : Look) (looks : List Look) (more : Option (List Look)) → option_map (λ all. look ∷ all) (before looks more) ≡ before (look ∷ looks) more
before_one look looks None = refl
before_one look looks (Some all) = refl

none_first : (outlook : Outlook) → with_outlook outlook None ≡ None
none_first Ready = refl
none_first Held = refl
none_first (On look) = refl

-- some outlooks that are waited for, and then others
first_then : (first second : List Outlook) (looks : List Look) → looks_in first ≡ Some looks → looks_in (first ++ second) ≡ before looks (looks_in second)
first_then [] second looks h = rw (← some_same h) (sym (before_none (looks_in second)))
first_then (Ready ∷ first) second looks h = absurd (cc)
first_then (Held ∷ first) second looks h = first_then first second looks h
first_then (On look ∷ first) second looks h = by_rest (looks_in first) (λ all e. first_then first second all e) h
  where
    by_rest : (o : Option (List Look)) → ((all : List Look) → o ≡ Some all → looks_in (first ++ second) ≡ before all (looks_in second)) → option_map (λ all. look ∷ all) o ≡ Some looks → option_map (λ all. look ∷ all) (looks_in (first ++ second)) ≡ before looks (looks_in second)
    by_rest None e k = absurd (cc)
    by_rest (Some all) e k = ap (λ o. option_map (λ all. look ∷ all) o) (e all refl) ∙ before_one look all (looks_in second) ∙ ap (λ l. before l (looks_in second)) (some_same k)

-- one more that is waited for, and one that is ready
pub looks_push : (outlooks : List Outlook) (outlook : Outlook) (looks now : List Look) → looks_in outlooks ≡ Some looks → added_to outlook looks ≡ Some now → looks_in (outlooks ++ outlook ∷ []) ≡ Some now
looks_push outlooks Ready looks now h k = absurd (cc)
looks_push outlooks Held looks now h k = first_then outlooks (Held ∷ []) looks h ∙ ap Some (append-nil looks) ∙ k
looks_push outlooks (On look) looks now h k = first_then outlooks (On look ∷ []) looks h ∙ k

pub looks_stop : (outlooks more : List Outlook) (outlook : Outlook) (looks : List Look) → looks_in outlooks ≡ Some looks → added_to outlook looks ≡ None → looks_in (outlooks ++ outlook ∷ more) ≡ None
looks_stop outlooks more Ready looks h k = first_then outlooks (Ready ∷ more) looks h
looks_stop outlooks more Held looks h k = absurd (cc)
looks_stop outlooks more (On look) looks h k = absurd (cc)

-- what one more look made of them
pub added_on : (outlook met : Outlook) (goes_on : Bool) (old now : List Look) → met ≡ outlook → goes_on ≡ true → Added goes_on met old now → added_to outlook old ≡ Some now
added_on outlook met true old now m e a = let P : Outlook → Type 0 = λ o. added_to o old ≡ Some now in subst P m a
added_on outlook met false old now m e a = absurd (cc)

pub added_off : (outlook met : Outlook) (goes_on : Bool) (old now : List Look) → met ≡ outlook → goes_on ≡ false → Added goes_on met old now → added_to outlook old ≡ None
added_off outlook met true old now m e a = absurd (cc)
added_off outlook met false old now m e a = let P : Outlook → Type 0 = λ o. added_to o old ≡ None in subst P m a

-- the things up to one, and all of them round it
pub things_more : {X : Type 0} (f : X → Outlook) (things : List X) (i : ℕ) (d : X) → i < length things → map f (take (i + 1) things) ≡ map f (take i things) ++ f (get_or things i d) ∷ []
things_more f things i d h = ap (λ xs. map f xs) (take_more things i d h) ∙ map-append f (take i things) (get_or things i d ∷ [])

pub things_round : {X : Type 0} (f : X → Outlook) (things : List X) (i : ℕ) (d : X) → i < length things → map f things ≡ map f (take i things) ++ f (get_or things i d) ∷ map f (drop (i + 1) things)
things_round f things i d h =
    ap (λ xs. map f xs) (sym (take-append-drop (i + 1) things)) ∙ map-append f (take (i + 1) things) (drop (i + 1) things)
    ∙ ap (λ xs. xs ++ map f (drop (i + 1) things)) (things_more f things i d h)
    ∙ append_assoc (map f (take i things)) (f (get_or things i d) ∷ []) (map f (drop (i + 1) things))
