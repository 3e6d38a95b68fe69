-- What a world under rules asks, and what holds of its log.
use Rattle.std.specs.Prelude.{filter, IfSome}
use Rattle.std.specs.List.{AllByRecursion}
use Rattle.std.proofs.Common.{◌≡◌, ℕ, ◌+◌, Bool, true, false, not, List, [], ◌∷◌, ◌++◌, length, Option, Some, None, option_map, Result, Ok, Err, arith, ap, sym, ◌∙◌, refl, append-nil, length-append, unwrap_or}
use Rattle.std.specs.declared.alloc.AllocError.{AllocError}
use Rattle.std.proofs.lemmas.Bool.{and_parts, false≢true}
use Rattle.std.proofs.lemmas.List.Folds.{list_all-append}
use Rattle.wasi_world.specs.declared.ids.OpId.{OpId}
use Rattle.wasi_world.specs.declared.call.Call.{Call}
use Rattle.wasi_world.specs.declared.call.Call.TheVariants as call
use Rattle.wasi_world.specs.declared.call.Told.{Told}
use Rattle.wasi_world.specs.declared.call.Told.TheVariants as told
use Rattle.wasi_world.specs.declared.call.Entry.{Entry}
use Rattle.wasi_world.specs.Seen.{Seen, Passes}
use Rattle.wasi_world.specs.Asks.{Asks, Give, Ask, AskWrite, one, one_write, Left, Reaches, AsksFor}
use Rattle.wasi_world.specs.Fits.{Fits}
use Rattle.wasi_policy.specs.declared.denied.Denied.{Denied}
use Rattle.wasi_policy.specs.declared.rule.Rule.{Rule}
use Rattle.wasi_policy.specs.Decision.{decision}
use Rattle.wasi_policy.specs.Policed.{denies, is_no, is_denied, is_handed, merged, rises, seen_under, IsUnder, Keeps, IsAllowed, IsPoliced}
use Rattle.wasi_policy.proofs.Merging.{rises_more, rises_and, merged_more, merged_and, filter_merged, filter_denied, all_merged, all_from, none_of, all_of}

-- == a call that is handed on
some_is : {A : Type 0} (a b : A) → Some a ≡ Some b → a ≡ b
some_is {A} a b h = ap (λ (o : Option A). unwrap_or o a) h

-- the log of the world under rules after more entries of the inner one
log_more : (denied : List Denied) (handed : ℕ) (old : Option (List Entry)) (more : List Entry) → ((log : List Entry) → old ≡ Some log → length log ≡ handed) → rises 0 denied handed ≡ true → option_map (merged denied) (option_map (λ log. log ++ more) old) ≡ option_map (λ log. log ++ more) (option_map (merged denied) old)
log_more denied handed None more count places = refl
log_more denied handed (Some log) more count places =
    let same : 0 + length log ≡ handed = omega (arith, count log refl) in
    ap (λ l. Some l) (merged_more 0 denied log more (rw same places))

passes_under : (rules : List Rule) (denied : List Denied) (handed : ℕ) (old new : Seen) (more : List Entry) → IsUnder rules denied handed old → Passes old more new → Passes (seen_under denied old) more (seen_under denied new)
passes_under rules denied handed old new more under passed = record {
  log = ap (option_map (merged denied)) passed.log ∙ log_more denied handed old.log more under.count under.places;
  faults = passed.faults;
  ended = passed.ended;
  closings = passed.closings;
  plan = refl;
}

reaches_under : {A : Type 0} (asks rest : Asks A) (rules : List Rule) (denied : List Denied) (handed : ℕ) (old new : Seen) → IsUnder rules denied handed old → Reaches asks rest old new → Reaches asks rest (seen_under denied old) (seen_under denied new)
reaches_under asks rest rules denied handed old new under reached = record {
  entries = reached.entries;
  passed = passes_under rules denied handed old new reached.entries under reached.passed;
  left = reached.left;
}

-- what is asked of the inner world is asked of the one under rules
pub asked_under : {A T : Type 0} (asks : Asks A) (rules : List Rule) (denied : List Denied) (handed : ℕ) (old new : Seen) (view : T → A) (result : Result T AllocError) → IsUnder rules denied handed old → AsksFor asks old new view result → AsksFor asks (seen_under denied old) (seen_under denied new) view result
asked_under asks rules denied handed old new view (Ok t) under asked = record {
  ok = reaches_under asks (Give (view t)) rules denied handed old new under asked.ok;
  err = tt;
  ended = asked.ended;
}
asked_under asks rules denied handed old new view (Err e) under asked = record {
  ok = tt;
  err = record { rest = asked.err.rest; reached = reaches_under asks asked.err.rest rules denied handed old new under asked.err.reached };
  ended = asked.ended;
}

-- where nothing was asked
passes_none : (seen : Seen) → Passes seen [] seen
passes_none seen = record { log = none seen.log; faults = refl; ended = refl; closings = refl; plan = refl } where
  none : (log : Option (List Entry)) → log ≡ option_map (λ l. l ++ []) log
  none None = refl
  none (Some l) = ap (λ m. Some m) (sym (append-nil l))

pub asked_nothing : {A T : Type 0} (asks : Asks A) (old new : Seen) (view : T → A) (e : AllocError) → new ≡ old → AsksFor asks old new view (Err e)
asked_nothing asks old new view e same = rw same (record {
  ok = tt;
  err = record { rest = asks; reached = record { entries = []; passed = passes_none old; left = refl } };
  ended = refl;
})

-- one call has one entry
pub record OneEntry (called : Call) (entries : List Entry) : Type 0 where
  pub entry : Entry
  pub is : entries ≡ entry ∷ []
  pub call_is : entry.call ≡ called

is_given : {A : Type 0} → Asks A → Bool
is_given (Give a) = true
is_given (Ask op called next) = false
is_given (AskWrite op sock bytes next) = false

one_entry : (op : OpId) (called : Call) (answer : Told) (entries : List Entry) → Left (one op called) entries (Give answer) → OneEntry called entries
unfolding is_given
one_entry op called answer [] left = absurd (false≢true (ap is_given left))
one_entry op called answer (e ∷ []) left = record { entry = e; is = refl; call_is = left.0.1 }
one_entry op called answer (e ∷ f ∷ es) left = absurd left.1

one_write_entry : (op sock : OpId) (bytes : List ℕ) (answer : Told) (entries : List Entry) → Left (one_write op sock bytes) entries (Give answer) → OneEntry (call.Write sock (length bytes)) entries
unfolding is_given
one_write_entry op sock bytes answer [] left = absurd (false≢true (ap is_given left))
one_write_entry op sock bytes answer (e ∷ []) left = record { entry = e; is = refl; call_is = left.0.1 }
one_write_entry op sock bytes answer (e ∷ f ∷ es) left = absurd left.2

-- what the inner log is after one more call
log_one : (old new : Option (List Entry)) (e : Entry) → new ≡ option_map (λ log. log ++ e ∷ []) old → (log : List Entry) → new ≡ Some log → (before : List Entry) × (old ≡ Some before) × (log ≡ before ++ e ∷ [])
log_one None new e h log is = cc
log_one (Some before) new e h log is = (before, refl, some_is log (before ++ e ∷ []) (sym is ∙ h))

under_one : (rules : List Rule) (denied : List Denied) (handed : ℕ) (old new : Seen) (called : Call) (entries : List Entry) → denies rules called ≡ false → IsUnder rules denied handed old → Passes old entries new → OneEntry called entries → IsUnder rules denied (handed + 1) new
under_one rules denied handed old new called entries allowed under passed single =
    let grown : new.log ≡ option_map (λ log. log ++ single.entry ∷ []) old.log = passed.log ∙ ap (λ es. option_map (λ log. log ++ es) old.log) single.is in
    record {
      count = λ log is. (let before = log_one old.log new.log single.entry grown log is in
          omega (arith, ap length before.2, length-append before.0 (single.entry ∷ []), under.count before.0 before.1));
      places = rises_more 0 denied handed (handed + 1) under.places (omega arith);
      refused = under.refused;
      passed = λ log is. (let before = log_one old.log new.log single.entry grown log is in
          rw (before.2, list_all-append (is_handed rules) before.0 (single.entry ∷ []), under.passed before.0 before.1, single.call_is, allowed) refl);
    }

pub under_call : (rules : List Rule) (denied : List Denied) (handed : ℕ) (old new : Seen) (op : OpId) (called : Call) (answer : Told) → denies rules called ≡ false → IsUnder rules denied handed old → Reaches (one op called) (Give answer) old new → IsUnder rules denied (handed + 1) new
under_call rules denied handed old new op called answer allowed under reached =
    under_one rules denied handed old new called reached.entries allowed under reached.passed (one_entry op called answer reached.entries reached.left)

pub under_write : (rules : List Rule) (denied : List Denied) (handed : ℕ) (old new : Seen) (op sock : OpId) (bytes : List ℕ) (answer : Told) → IsUnder rules denied handed old → Reaches (one_write op sock bytes) (Give answer) old new → IsUnder rules denied (handed + 1) new
under_write rules denied handed old new op sock bytes answer under reached =
    under_one rules denied handed old new (call.Write sock (length bytes)) reached.entries refl under reached.passed (one_write_entry op sock bytes answer reached.entries reached.left)

-- a world whose log is as before
pub under_same : (rules : List Rule) (denied : List Denied) (handed : ℕ) (old new : Seen) → new.log ≡ old.log → IsUnder rules denied handed old → IsUnder rules denied handed new
under_same rules denied handed old new same under = record {
  count = λ log is. under.count log (sym same ∙ is);
  places = under.places;
  refused = under.refused;
  passed = λ log is. under.passed log (sym same ∙ is);
}

-- a world that was asked nothing
pub under_start : (rules : List Rule) (inner : Seen) → IfSome inner.log (λ log. log ≡ []) → IsUnder rules [] 0 inner
under_start rules inner empty = record {
  count = λ log is. ap length (at_start inner.log log empty is);
  places = refl;
  refused = refl;
  passed = λ log is. (rw (at_start inner.log log empty is) refl);
} where
  at_start : (o : Option (List Entry)) (log : List Entry) → IfSome o (λ l. l ≡ []) → o ≡ Some log → log ≡ []
  at_start None log none is = cc
  at_start (Some l) log none is = some_is log l (sym is) ∙ none

-- == a check that is denied
pub denied_fits : (rules : List Rule) (called : Call) → denies rules called ≡ true → Fits called told.No
denied_fits rules (call.Check ctx address asked) h = tt
denied_fits rules _ h = absurd (false≢true h)

module _ (rules : List Rule) (denied : List Denied) (d : Denied) (handed : ℕ) (inner : Seen) (under : IsUnder rules denied handed inner) (place : d.place ≡ handed) (call_is : denies rules d.entry.call ≡ true) (answer_is : d.entry.answer ≡ told.No) where
  log_denied : (log : Option (List Entry)) → ((l : List Entry) → log ≡ Some l → length l ≡ handed) → option_map (merged (denied ++ d ∷ [])) log ≡ option_map (λ l. l ++ d.entry ∷ []) (option_map (merged denied) log)
  log_denied None count = refl
  log_denied (Some l) count =
      let same : 0 + length l ≡ handed = omega (arith, count l refl) in
      ap (λ m. Some m) (merged_and 0 denied d l (rw same under.places) (place ∙ sym same))

  passes_denied : Passes (seen_under denied inner) (d.entry ∷ []) (seen_under (denied ++ d ∷ []) inner)
  passes_denied = record {
    log = log_denied inner.log under.count;
    faults = (inner.faults, rw answer_is refl, refl);
    ended = refl;
    closings = refl;
    plan = refl;
  }

  pub asked_denied : AsksFor (one d.entry.op d.entry.call) (seen_under denied inner) (seen_under (denied ++ d ∷ []) inner) (λ t. t) (Ok told.No)
  asked_denied = record {
    ok = record {
      entries = d.entry ∷ [];
      passed = passes_denied;
      left = ((refl, refl, rw answer_is (denied_fits rules d.entry.call call_is)), ap (λ t. Give t) answer_is);
    };
    err = tt;
    ended = refl;
  }

  pub under_denied : IsUnder rules (denied ++ d ∷ []) handed inner
  under_denied = record {
    count = under.count;
    places = rises_and 0 denied d handed under.places place;
    refused = rw (list_all-append (λ (x : Denied). is_denied rules x.entry) denied (d ∷ []), under.refused, call_is, answer_is) refl;
    passed = under.passed;
  }

-- == the log
no_is : (answer : Told) → is_no answer ≡ true → answer ≡ told.No
no_is told.No h = refl
no_is _ h = absurd (false≢true h)

not_true : (b : Bool) → not b ≡ true → b ≡ false
not_true true h = absurd (false≢true h)
not_true false h = refl

keeps_denied : (rules : List Rule) (e : Entry) → is_denied rules e ≡ true → Keeps rules e
keeps_denied rules e h = λ d. no_is e.answer (and_parts (denies rules e.call) _ h).1

keeps_handed : (rules : List Rule) (e : Entry) → is_handed rules e ≡ true → Keeps rules e
keeps_handed rules e h = λ d. absurd (false≢true (sym (not_true (denies rules e.call) h) ∙ d))

allowed_if : (b : Bool) → (not b ≡ true → ⊥) → b ≡ true
allowed_if true h = refl
allowed_if false h = absurd (h refl)

allowed_kept : (rules : List Rule) (e : Entry) → Keeps rules e → IsAllowed rules e
allowed_kept rules e keeps = λ ctx address asked is told. allowed_if (decision rules address asked).allow (λ h. told (keeps (ap (denies rules) is ∙ h)))

allowed_all : (rules : List Rule) (log : List Entry) → AllByRecursion (Keeps rules) log → AllByRecursion (IsAllowed rules) log
allowed_all rules [] h = tt
allowed_all rules (e ∷ log) h = (allowed_kept rules e h.0, allowed_all rules log h.1)

handed_not : (rules : List Rule) (e : Entry) → is_denied rules e ≡ true → is_handed rules e ≡ false
handed_not rules e h = rw (and_parts (denies rules e.call) _ h).0 refl

pub policed : (rules : List Rule) (denied : List Denied) (handed : ℕ) (seen : Seen) (inner log : List Entry) → IsUnder rules denied handed seen → seen.log ≡ Some inner → (seen_under denied seen).log ≡ Some log → IsPoliced rules denied inner log
policed rules denied handed seen inner log under is told =
    let log_is : log ≡ merged denied inner = some_is log (merged denied inner) (sym told ∙ ap (option_map (merged denied)) is) in
    let passed = under.passed inner is in
    let keeps = all_merged (Keeps rules) 0 denied inner
    (all_from (λ (d : Denied). is_denied rules d.entry) (λ (d : Denied). Keeps rules d.entry) denied (λ d h. keeps_denied rules d.entry h) under.refused)
    (all_from (is_handed rules) (Keeps rules) inner (keeps_handed rules) passed) in
    record {
      log_is = log_is;
      handed = ap (filter (is_handed rules)) log_is ∙ (filter_merged (is_handed rules) 0 denied inner
          (all_from (λ (d : Denied). is_denied rules d.entry) (λ (d : Denied). is_handed rules d.entry ≡ false) denied (λ d h. handed_not rules d.entry h) under.refused) ∙ all_of (is_handed rules) inner passed);
      refused = ap (filter (λ e. denies rules e.call)) log_is ∙ filter_denied (λ e. denies rules e.call) 0 denied inner
          (all_from (λ (d : Denied). is_denied rules d.entry) (λ (d : Denied). denies rules d.entry.call ≡ true) denied (λ d h. (and_parts (denies rules d.entry.call) _ h).0) under.refused)
          (none_of (λ e. denies rules e.call) inner passed);
      keeps = rw log_is keeps;
      allowed = rw log_is (allowed_all rules (merged denied inner) keeps);
    }
