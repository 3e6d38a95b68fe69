-- Lists of lines, and of pairs of lines that conflict.
use Rattle.std.specs.Prelude.{min, take, ◌-◌}
use Rattle.std.proofs.Common.{◌≡◌, ℕ, zero, suc, ◌+◌, ◌≤◌, ◌<◌, ◌⊎◌, inl, inr, Bool, true, false, List, [], ◌∷◌, ◌++◌, Some, length, arith, ap, sym, ◌∙◌, refl, subst}
use Rattle.std.specs.List.{slice_get, All, Contains}
use Rattle.std.proofs.lemmas.Bool.{false≢true, cases_lt}
use Rattle.std.proofs.lemmas.List.{length-append, length-take, take_all, take-append-le}
use Rattle.std.proofs.lemmas.List.Elements.{All-nil, All-head, All-tail, All-push, All-weaker, Contains-append_left, Contains-push}
use Rattle.wasi_policy.specs.declared.rule.Rule.{Rule}
use Rattle.wasi_policy.specs.Findings.{Decides, IsShadowed, Overlap, IsUnmatched, Conflict, IsPairBefore, AreInOrder, AreBefore, AreConflicts}
use Rattle.wasi_policy.specs.Overlaps.{Lists, Tally, Notes, NotesLine, Counted, Counts}

-- == lists of lines
pub lists_same : (P Q : ℕ → Type 0) (line : ℕ) (old : List ℕ) → Q line → Lists P Q line old old
lists_same P Q line old there = record { kept = λ k h. h; sound = λ h. h; there = inr there }

pub lists_push : (P Q : ℕ → Type 0) (line : ℕ) (old new : List ℕ) → new ≡ old ++ line ∷ [] → P line → Lists P Q line old new
lists_push P Q line old new is here = record {
  kept = λ k h. rw is (Contains-append_left old (line ∷ []) k h);
  sound = λ h. rw is (All-push P old line h here);
  there = inl (rw is (Contains-push old line));
}

-- one more line
pub lines_more : (P Q : ℕ → Type 0) (before : ℕ) (old new : List ℕ) → Lists P Q (before + 1) old new → ((line : ℕ) → 0 < line → line ≤ before → Contains old line ⊎ Q line) → (line : ℕ) → 0 < line → line ≤ before + 1 → Contains new line ⊎ Q line
lines_more P Q before old new lists there line begins h = by_place (cases_lt before line) where
  kept : Contains old line ⊎ Q line → Contains new line ⊎ Q line
  kept (inl listed) = inl (lists.kept line listed)
  kept (inr other) = inr other

  by_place : (before < line) ⊎ (line ≤ before) → Contains new line ⊎ Q line
  by_place (inl e) =
      let last : before + 1 ≡ line = omega (arith, e, h) in
      subst (λ l. Contains new l ⊎ Q l) last lists.there
  by_place (inr e) = kept (there line begins e)

some_rule : (a b : Rule) → Some a ≡ Some b → a ≡ b
some_rule a b e = cc

pub unmatched_is : (rules : List Rule) (line : ℕ) (rule : Rule) (found : Bool) → slice_get rules (line - 1) ≡ Some rule → (Overlap rule rule → found ≡ true) → found ≡ false → IsUnmatched rules line
unmatched_is rules line rule found is complete none m =
    let same : m.rule ≡ rule = some_rule m.rule rule (sym m.rule_is ∙ is) in
    false≢true (sym none ∙ complete (subst (λ r. Overlap r r) same m.some))

pub shadowed_is : (rules : List Rule) (line : ℕ) (found : Bool) → (Decides rules line → found ≡ true) → found ≡ false → IsShadowed rules line
shadowed_is rules line found complete none address asked fits decided =
    false≢true (sym none ∙ complete (record { address = address; asked = asked; fits = fits; decided = decided }))

-- == counts
pub tally_push : (most : ℕ) (first : List (ℕ × ℕ)) (count : ℕ) (all : List (ℕ × ℕ)) (pair : ℕ × ℕ) → length first < most → Tally most first count all → Tally most (first ++ pair ∷ []) (min (count + 1) 18446744073709551615) (all ++ pair ∷ [])
tally_push most first count all pair room t = record {
  first_is = ap (λ xs. xs ++ pair ∷ []) same ∙ sym (take_all most (all ++ pair ∷ []) longer);
  count_is = counted;
} where
  shown : length first ≡ min most (length all)
  shown = ap length t.first_is ∙ length-take most all

  short : length all < most
  short = omega (arith, shown, room)

  same : first ≡ all
  same = t.first_is ∙ take_all most all (omega (arith, short))

  more : length (all ++ pair ∷ []) ≡ length all + 1
  more = length-append all (pair ∷ [])

  longer : length (all ++ pair ∷ []) ≤ most
  longer = omega (arith, more, short)

  counted : min (count + 1) 18446744073709551615 ≡ min (length (all ++ pair ∷ [])) 18446744073709551615
  counted = omega (arith, more, t.count_is)

pub tally_full : (most : ℕ) (first : List (ℕ × ℕ)) (count : ℕ) (all : List (ℕ × ℕ)) (pair : ℕ × ℕ) → most ≤ length first → Tally most first count all → Tally most first (min (count + 1) 18446744073709551615) (all ++ pair ∷ [])
tally_full most first count all pair full t = record {
  first_is = t.first_is ∙ sym (take-append-le most all (pair ∷ []) enough);
  count_is = counted;
} where
  shown : length first ≡ min most (length all)
  shown = ap length t.first_is ∙ length-take most all

  enough : most ≤ length all
  enough = omega (arith, shown, full)

  more : length (all ++ pair ∷ []) ≡ length all + 1
  more = length-append all (pair ∷ [])

  counted : min (count + 1) 18446744073709551615 ≡ min (length (all ++ pair ∷ [])) 18446744073709551615
  counted = omega (arith, more, t.count_is)

pub counts_same : (most : ℕ) (first : List (ℕ × ℕ)) (count : ℕ) (P : List (ℕ × ℕ) → List (ℕ × ℕ) → Type 0) → ((all : List (ℕ × ℕ)) → P all all) → Counts most first count first count P
counts_same most first count P same all t = record { all = all; tally = t; holds = same all }

-- one count behind another
pub counts_then : (most : ℕ) (f0 : List (ℕ × ℕ)) (c0 : ℕ) (f1 : List (ℕ × ℕ)) (c1 : ℕ) (f2 : List (ℕ × ℕ)) (c2 : ℕ) (P Q R : List (ℕ × ℕ) → List (ℕ × ℕ) → Type 0) → ((a b c : List (ℕ × ℕ)) → P a b → Q b c → R a c) → Counts most f0 c0 f1 c1 P → Counts most f1 c1 f2 c2 Q → Counts most f0 c0 f2 c2 R
counts_then most f0 c0 f1 c1 f2 c2 P Q R both one other all t =
    let mid = one all t in
    let end = other mid.all mid.tally in
    record { all = end.all; tally = end.tally; holds = both all mid.all end.all mid.holds end.holds }

-- == the order of pairs
later_before : (line later then more : ℕ) → (line < then) ⊎ ((line ≡ then) × (later ≤ more)) → (pair : ℕ × ℕ) → IsPairBefore line later pair → IsPairBefore then more pair
later_before line later then more (inl h) pair (inl k) = inl (omega (arith, h, k))
later_before line later then more (inl h) pair (inr (is, k)) = inl (omega (arith, h, is))
later_before line later then more (inr (same, h)) pair (inl k) = inl (omega (arith, same, k))
later_before line later then more (inr (same, h)) pair (inr (is, k)) = inr (is ∙ same, omega (arith, h, k))

before_more : (line later then more : ℕ) (pairs : List (ℕ × ℕ)) → (line < then) ⊎ ((line ≡ then) × (later ≤ more)) → AreBefore line later pairs → AreBefore then more pairs
before_more line later then more pairs h are = record {
  order = are.order;
  before = All-weaker (λ pair. IsPairBefore line later pair) (λ pair. IsPairBefore then more pair) (later_before line later then more h) pairs are.before;
}

in_order_push : (pairs : List (ℕ × ℕ)) (line later : ℕ) → AreInOrder pairs → All (λ pair. IsPairBefore line later pair) pairs → AreInOrder (pairs ++ (line, later) ∷ [])
in_order_push [] line later order before = (All-nil (λ more. IsPairBefore more.0 more.1 (line, later)), refl)
in_order_push (pair ∷ pairs) line later order before = (
  All-push (λ more. IsPairBefore more.0 more.1 pair) pairs (line, later) order.0 (All-head (λ p. IsPairBefore line later p) pair pairs before),
  in_order_push pairs line later order.1 (All-tail (λ p. IsPairBefore line later p) pair pairs before),
)

before_push : (line later : ℕ) (pairs : List (ℕ × ℕ)) → AreBefore line later pairs → AreBefore line (later + 1) (pairs ++ (line, later) ∷ [])
before_push line later pairs are =
    let wider = before_more line later line (later + 1) pairs (inr (refl, omega arith)) are in
    record {
      order = in_order_push pairs line later are.order are.before;
      before = All-push (λ pair. IsPairBefore line (later + 1) pair) pairs (line, later) wider.before (inr (refl, omega arith));
    }

-- == conflicts
pub notes_same : (rules : List Rule) (line later : ℕ) → (Conflict rules line later → ⊥) → (all : List (ℕ × ℕ)) → Notes rules line later all all
notes_same rules line later none all = record {
  kept = λ p h. h;
  sound = λ h. h;
  order = before_more line later line (later + 1) all (inr (refl, omega arith));
  there = λ conflict. absurd (none conflict);
}

notes_push : (rules : List Rule) (line later : ℕ) → Conflict rules line later → (all : List (ℕ × ℕ)) → Notes rules line later all (all ++ (line, later) ∷ [])
notes_push rules line later conflict all = record {
  kept = λ p h. Contains-append_left all ((line, later) ∷ []) p h;
  sound = λ h. All-push (λ p. Conflict rules p.0 p.1) all (line, later) h conflict;
  order = before_push line later all;
  there = λ found. Contains-push all (line, later);
}

pub count_push : (rules : List Rule) (most line later : ℕ) (first new : List (ℕ × ℕ)) (count next : ℕ) → length first < most → Conflict rules line later → new ≡ first ++ (line, later) ∷ [] → next ≡ min (count + 1) 18446744073709551615 → Counts most first count new next (Notes rules line later)
count_push rules most line later first new count next room conflict is more all t = record {
  all = all ++ (line, later) ∷ [];
  tally = rw (is, more) (tally_push most first count all (line, later) room t);
  holds = notes_push rules line later conflict all;
}

pub count_full : (rules : List Rule) (most line later : ℕ) (first : List (ℕ × ℕ)) (count next : ℕ) → most ≤ length first → Conflict rules line later → next ≡ min (count + 1) 18446744073709551615 → Counts most first count first next (Notes rules line later)
count_full rules most line later first count next full conflict more all t = record {
  all = all ++ (line, later) ∷ [];
  tally = rw more (tally_full most first count all (line, later) full t);
  holds = notes_push rules line later conflict all;
}

-- What holds of a line with the later ones up to one.
pub record NotesUpTo (rules : List Rule) (line before : ℕ) (old new : List (ℕ × ℕ)) : Type 0 where
  pub kept : (pair : ℕ × ℕ) → Contains old pair → Contains new pair
  pub sound : All (λ p. Conflict rules p.0 p.1) old → All (λ p. Conflict rules p.0 p.1) new
  pub order : AreBefore line 0 old → AreBefore line (before + 1) new
  pub there : (later : ℕ) → later ≤ before → Conflict rules line later → Contains new (line, later)

pub up_to_none : (rules : List Rule) (line : ℕ) (all : List (ℕ × ℕ)) → NotesUpTo rules line line all all
up_to_none rules line all = record {
  kept = λ p h. h;
  sound = λ h. h;
  order = before_more line 0 line (line + 1) all (inr (refl, omega arith));
  there = λ later h conflict. absurd (omega (arith, h, conflict.before));
}

pub up_to_more : (rules : List Rule) (line before : ℕ) (a b c : List (ℕ × ℕ)) → NotesUpTo rules line before a b → Notes rules line (before + 1) b c → NotesUpTo rules line (before + 1) a c
up_to_more rules line before a b c one notes = record {
  kept = λ p h. notes.kept p (one.kept p h);
  sound = λ h. notes.sound (one.sound h);
  order = λ h. notes.order (one.order h);
  there = λ later h conflict. by_place later conflict h (cases_lt before later);
} where
  by_place : (later : ℕ) → Conflict rules line later → later ≤ before + 1 → (before < later) ⊎ (later ≤ before) → Contains c (line, later)
  by_place later conflict h (inl e) =
      let last : before + 1 ≡ later = omega (arith, e, h) in
      subst (λ l. Conflict rules line l → Contains c (line, l)) last notes.there conflict
  by_place later conflict h (inr e) = notes.kept (line, later) (one.there later e conflict)

pub up_to_all : (rules : List Rule) (line before : ℕ) (a b : List (ℕ × ℕ)) → length rules ≤ before ⊎ (length rules ≤ line) → NotesUpTo rules line before a b → NotesLine rules line a b
up_to_all rules line before a b end notes = record {
  kept = notes.kept;
  sound = notes.sound;
  order = λ h. before_more line (before + 1) (line + 1) 0 b (inl (omega arith)) (notes.order h);
  there = λ later conflict. by_end later conflict end;
} where
  by_end : (later : ℕ) → Conflict rules line later → (length rules ≤ before) ⊎ (length rules ≤ line) → Contains b (line, later)
  by_end later conflict (inl h) = notes.there later (omega (arith, h, conflict.within)) conflict
  by_end later conflict (inr h) = absurd (omega (arith, h, conflict.within, conflict.before))

-- What holds of the lines up to one.
pub record AreUpTo (rules : List Rule) (before : ℕ) (all : List (ℕ × ℕ)) : Type 0 where
  pub sound : All (λ p. Conflict rules p.0 p.1) all
  pub order : AreBefore (before + 1) 0 all
  pub there : (line later : ℕ) → line ≤ before → Conflict rules line later → Contains all (line, later)

pub are_none : (rules : List Rule) → AreUpTo rules 0 []
are_none rules = record {
  sound = All-nil (λ p. Conflict rules p.0 p.1);
  order = record { order = refl; before = All-nil (λ pair. IsPairBefore 1 0 pair) };
  there = λ line later h conflict. absurd (omega (arith, h, conflict.begins));
}

pub are_more : (rules : List Rule) (before : ℕ) (old new : List (ℕ × ℕ)) → AreUpTo rules before old → NotesLine rules (before + 1) old new → AreUpTo rules (before + 1) new
are_more rules before old new are notes = record {
  sound = notes.sound are.sound;
  order = notes.order are.order;
  there = λ line later h conflict. by_place line later conflict h (cases_lt before line);
} where
  by_place : (line later : ℕ) → Conflict rules line later → line ≤ before + 1 → (before < line) ⊎ (line ≤ before) → Contains new (line, later)
  by_place line later conflict h (inl e) =
      let last : before + 1 ≡ line = omega (arith, e, h) in
      subst (λ l. Conflict rules l later → Contains new (l, later)) last (notes.there later) conflict
  by_place line later conflict h (inr e) = notes.kept (line, later) (are.there line later e conflict)

pub are_all : (rules : List Rule) (before : ℕ) (all : List (ℕ × ℕ)) → length rules ≤ before → AreUpTo rules before all → AreConflicts rules all
are_all rules before all end are = record {
  sound = are.sound;
  complete = λ line later conflict. are.there line later (omega (arith, end, conflict.before, conflict.within)) conflict;
  order = are.order.order;
}

pub counted_then : (most : ℕ) (f0 : List (ℕ × ℕ)) (c0 : ℕ) (f1 : List (ℕ × ℕ)) (c1 : ℕ) (P R : List (ℕ × ℕ) → Type 0) (Q : List (ℕ × ℕ) → List (ℕ × ℕ) → Type 0) → ((a b : List (ℕ × ℕ)) → P a → Q a b → R b) → Counted most f0 c0 P → Counts most f0 c0 f1 c1 Q → Counted most f1 c1 R
counted_then most f0 c0 f1 c1 P R Q both one other =
    let end = other one.all one.tally in
    record { all = end.all; tally = end.tally; holds = both one.all end.all one.holds end.holds }

pub counted_as : (most : ℕ) (first : List (ℕ × ℕ)) (count : ℕ) (P R : List (ℕ × ℕ) → Type 0) → ((a : List (ℕ × ℕ)) → P a → R a) → Counted most first count P → Counted most first count R
counted_as most first count P R more one = record { all = one.all; tally = one.tally; holds = more one.all one.holds }

pub counted_none : (rules : List Rule) (most : ℕ) → Counted most [] 0 (AreUpTo rules 0)
counted_none rules most = record { all = []; tally = record { first_is = empty most; count_is = omega arith }; holds = are_none rules } where
  empty : (n : ℕ) → ◌≡◌ {A = List (ℕ × ℕ)} [] (take n [])
  empty zero = refl
  empty (suc n) = refl
