-- What a network socket takes along a log, and by one poll of a write in progress.
use Rattle.std.proofs.lemmas.List.{take-append-drop}
use Rattle.wasi_world.specs.declared.call.Call.TheVariants as call
use Rattle.wasi_world.specs.declared.call.Told.TheVariants as told
use Rattle.wasi_laws.proofs.Words.{◌≡◌, ℕ, Bool, true, false, List, [], ◌∷◌, ◌++◌, refl, sym, ap, subst, ◌∙◌, append-nil, append_assoc, arith, ◌≤◌, if◌then◌else◌, length, take, drop, ⊤, OpId, Call, Entry, Asks, Give, Ask, AskWrite, is_same, Allows, Quiet, none_taken, taken_by, taken_in, IsFrontOf, ErrorCode, Told, Fits, told_taken, bind, IsFront, Given, Item, Write, ShutdownSend, Last, Who, LastAsk, NothingLast, CloseLast, ShutdownLast, End, less_one, last_ask, bytes_left, entry, NoWrite, GoesOut}
use Rattle.wasi_laws.proofs.asks.Fronts.{unwritten, AsksBy, Checks, Goes, Calmly, IsSpent, still, PollLaw}
use Rattle.wasi_laws.proofs.shapes.Shape.{same_side, not_same, IsOfWrite, AreOfEnd, AreOfWrite, end_write}
use Rattle.wasi_laws.proofs.shapes.Law.{never}
use Rattle.wasi_laws.proofs.permits.Agreeing.{JobAgrees}

-- what was taken along two logs
pub taken_append : (side : OpId) (es fs : List Entry) → taken_in side (es ++ fs) ≡ taken_in side es ++ taken_in side fs
taken_append side [] fs = refl
taken_append side (e ∷ es) fs = ap (λ more. taken_by side e.call e.answer ++ more) (taken_append side es fs) ∙ sym (append_assoc (taken_by side e.call e.answer) (taken_in side es) (taken_in side fs))

pub taken_more : (side : OpId) (es : List Entry) (e : Entry) → taken_in side (es ++ e ∷ []) ≡ taken_in side es ++ taken_by side e.call e.answer
taken_more side es e = taken_append side es (e ∷ []) ∙ ap (λ more. taken_in side es ++ more) (append-nil (taken_by side e.call e.answer))

pub taken_push : (side : OpId) (es : List Entry) (e : Entry) → taken_by side e.call e.answer ≡ [] → taken_in side (es ++ e ∷ []) ≡ taken_in side es
taken_push side es e h = taken_more side es e ∙ (ap (λ more. taken_in side es ++ more) h ∙ append-nil (taken_in side es))

module _ (side : OpId) (bytes : List ℕ) where
  -- at each ask what was taken is the front
  abbrev pub Fronts : List Entry → OpId → Call → Type 0
  Fronts es op c = IsFrontOf (taken_in side es) bytes

  -- a tree that writes nothing
  pub quiet_keep : {A : Type 0} (Q : A → Type 0) (taken : List ℕ) (es : List Entry) (asks : Asks A) → IsFrontOf taken bytes → taken_in side es ≡ taken → Quiet Q es asks → Allows Fronts (λ fs a. (taken_in side fs ≡ taken) × Q a) es asks
  quiet_keep Q taken es (Give a) f e h = (e, h)
  quiet_keep Q taken es (Ask op call next) f e h = (subst (λ m. IsFrontOf m bytes) (sym e) f, λ told fits. quiet_keep Q taken _ (next told) f (taken_push side es _ (none_taken side call told h.0) ∙ e) (h.1 told fits))
  quiet_keep Q taken es (AskWrite op sock offered next) f e h = absurd h.0

  -- == by the network socket that a writer writes to, and what was taken before it wrote
  module _ (at : OpId) (before : List ℕ) where
    -- What is known where so much was taken: it is the front; where the writer's network socket is this one, this holds of it;
    -- else nothing more was taken.
    pub record Accounts (A : List ℕ → Type 0) (all : List ℕ) : Type 0 where
      pub front : IsFrontOf all bytes
      pub ours : at ≡ side → A all
      pub theirs : is_same at side ≡ false → all ≡ before

    pub accounts_weaker : (A B : List ℕ → Type 0) (all : List ℕ) → (A all → B all) → Accounts A all → Accounts B all
    accounts_weaker A B all f h = record { front = h.front; ours = λ e. f (h.ours e); theirs = h.theirs }

-- the front, and then the rest
front_then : (bytes taken : List ℕ) (b : ℕ) → taken ≡ take (length taken) (b ∷ bytes) → 1 ≤ length taken → taken ++ drop (less_one (length taken)) bytes ≡ b ∷ bytes
front_then bytes [] b h some = absurd (omega (arith, some))
front_then bytes (x ∷ xs) b h some = ap (λ w. w ++ drop (length xs) bytes) h ∙ ap (λ more. b ∷ more) (take-append-drop (length xs) bytes)

-- what writes nothing has no bytes left
none_left : (items : List Item) → AreOfEnd items → bytes_left items ≡ []
none_left [] k = refl
none_left (ShutdownSend ∷ items) k = refl
none_left (Last c given ∷ items) k = refl
none_left (_ ∷ items) k = absurd k.0

-- nothing is left of an item that was answered
spent_left : (i : Item) (items : List Item) → IsSpent i → IsOfWrite i → bytes_left (i ∷ items) ≡ []
spent_left (Write bytes) items s k = s
spent_left ShutdownSend items s k = refl
spent_left (Last c given) items s k = refl
spent_left _ items s k = absurd k

goes_unwritten : (c : Call) → GoesOut c → NoWrite c
goes_unwritten (call.Write sock offered) k = k
goes_unwritten _ k = tt

asks_unwritten : (who : Who) (i : Item) (c : Call) → AsksBy who i c → NoWrite c
asks_unwritten who i _ (Checks a usage t) = tt
asks_unwritten who i _ (Goes c t o s) = goes_unwritten c o
asks_unwritten who i _ (Calmly c e s) = unwritten c e

none_by : (b : Bool) → (let bytes : List ℕ = if b then [] else [] in bytes) ≡ []
none_by true = refl
none_by false = refl

module _ (side : OpId) (bytes before : List ℕ) (who : Who) where
  abbrev Knows : (List ℕ → Type 0) → List Entry → Type 0
  Knows A es = Accounts side bytes who.side before A (taken_in side es)

  -- this is still to be taken
  abbrev pub StillOwes : List ℕ → List ℕ → Type 0
  StillOwes left all = all ++ left ≡ bytes

  abbrev pub Writes : List Entry → List Item → Type 0
  Writes es items = AreOfWrite items × Knows (StillOwes (bytes_left items)) es

  abbrev pub After : List Entry → End × List Item → Type 0
  After es ended = Knows (λ all. JobAgrees all bytes ended.1 ended.0) es

  -- one call more that took nothing
  quietly : (A : List ℕ → Type 0) (es : List Entry) (c : Call) (t : Told) → taken_by side c t ≡ [] → Knows A es → Knows A (es ++ entry who.id c t ∷ [])
  quietly A es c t none h = subst (Accounts side bytes who.side before A) (sym (taken_push side es (entry who.id c t) none)) h

  -- after a code only the front is known
  after_code : (items : List Item) (es : List Entry) → Knows (StillOwes (bytes_left items)) es → Knows (λ all. ⊤) es
  after_code items es h = accounts_weaker side bytes who.side before (StillOwes (bytes_left items)) (λ all. ⊤) (taken_in side es) (λ a. tt) h

  last : (items : List Item) (es : List Entry) (a : LastAsk) (c : ErrorCode) (given : Given) → Knows (StillOwes (bytes_left items)) es → Allows (Fronts side bytes) After es (last_ask who a c given)
  unfolding bind
  last items es NothingLast c given h = after_code items es h
  last items es CloseLast c given h = (h.front, λ t fits. quietly (λ all. ⊤) es _ t refl (after_code items es h))
  last items es ShutdownLast c given h = (h.front, λ t fits. quietly (λ all. ⊤) es _ t refl (after_code items es h))

  -- some were taken
  took_some : (es : List Entry) (b : ℕ) (left some : List ℕ) (ours : Bool) → is_same who.side side ≡ ours → Knows (StillOwes (b ∷ left)) es → some ++ drop (less_one (length some)) left ≡ b ∷ left
      → (let more : List ℕ = if ours then some else [] in Accounts side bytes who.side before (StillOwes (drop (less_one (length some)) left)) (taken_in side es ++ more))
  took_some es b left some true e h front =
      let rest = drop (less_one (length some)) left in
      let is : who.side ≡ side = same_side who.side side e in
      let all : (taken_in side es ++ some) ++ rest ≡ bytes = append_assoc (taken_in side es) some rest ∙ (ap (λ w. taken_in side es ++ w) front ∙ h.ours is) in
      record { front = (rest, all); ours = λ o. all; theirs = λ other. absurd (not_same who.side side is other) }
  took_some es b left some false e h front =
      record { front = subst (λ m. IsFrontOf m bytes) (sym (append-nil (taken_in side es))) h.front; ours = λ o. absurd (not_same who.side side o e); theirs = λ other. append-nil (taken_in side es) ∙ h.theirs other }

  wrote : (b : ℕ) (left : List ℕ) (es : List Entry) (t : Told) → Knows (StillOwes (b ∷ left)) es → Fits (call.Write who.side (length (b ∷ left))) t → IsFront t (b ∷ left) → Knows (StillOwes (still (told_taken t) b left)) (es ++ entry who.id (call.Write who.side (length (b ∷ left))) t ∷ [])
  wrote b left es (told.Took some) h fits front =
      subst (Accounts side bytes who.side before (StillOwes (drop (less_one (length some)) left))) (sym (taken_more side es _)) (took_some es b left some (is_same who.side side) refl h (front_then left some b front fits.0))
  wrote b left es told.Pending h fits front = quietly (StillOwes (b ∷ left)) es _ told.Pending (none_by (is_same who.side side)) h
  wrote b left es (told.Code c) h fits front = quietly (StillOwes (b ∷ left)) es _ (told.Code c) (none_by (is_same who.side side)) h
  wrote b left es _ h fits front = absurd fits

  pub write_law : PollLaw (Fronts side bytes) who Writes After
  write_law = record {
    asks = λ es i items c a h. (h.1.front, λ t fits. (h.0, quietly (StillOwes (bytes_left (i ∷ items))) es c t (none_taken side c t (asks_unwritten who i c a)) h.1));
    writes = λ es b left items h. (h.1.front, λ t fits front. (h.0, wrote b left es t h.1 fits front));
    becomes = λ es i j items b h. absurd (never i j b h.0.0);
    drops = λ es i items s h. (
      end_write items h.0.1,
      accounts_weaker side bytes who.side before (StillOwes (bytes_left (i ∷ items))) (StillOwes (bytes_left items)) (taken_in side es)
          (λ a. ap (λ more. taken_in side es ++ more) (none_left items h.0.1 ∙ sym (spent_left i items s h.0.0)) ∙ a) h.1,
    );
    ends = λ es i items c given h. last (i ∷ items) es who.last c given h.1;
    waits = λ es items h. h.1;
    done = λ es given m h. accounts_weaker side bytes who.side before (StillOwes []) (λ all. all ≡ bytes) (taken_in side es) (λ a. sym (append-nil (taken_in side es)) ∙ a) h.1;
  }
