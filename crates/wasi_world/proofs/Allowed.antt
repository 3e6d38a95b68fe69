-- What holds at each ask of a tree, whatever is answered that fits, holds along its walks.
use Rattle.std.proofs.Common.{◌≡◌, ℕ, zero, suc, Bool, true, false, if◌then◌else◌, List, [], ◌∷◌, ◌++◌, length, refl, sym, ap, subst, ◌∙◌, append_assoc, append-nil}
use Rattle.wasi_world.specs.declared.ids.OpId.{OpId}
use Rattle.wasi_world.specs.declared.call.Call.{Call}
use Rattle.wasi_world.specs.declared.call.Call.TheVariants.{Write}
use Rattle.wasi_world.specs.declared.call.Told.{Told}
use Rattle.wasi_world.specs.declared.call.Entry.{Entry}
use Rattle.wasi_world.specs.Fits.{Fits}
use Rattle.wasi_world.specs.Asks.{Asks, Give, Ask, AskWrite, bind, IsFront, Left}
use Rattle.wasi_world.specs.Operation.{Given, Nothing, Item, Who, End, Waits, Done, Front, Goes, Stays, Again, Ends, front, last_ask, after, round, polls}

-- each ask of the tree may come after the entries before it, and what the tree gives holds after them all
abbrev pub Allows : {A : Type 0} → (List Entry → OpId → Call → Type 0) → (List Entry → A → Type 0) → List Entry → Asks A → Type 0
Allows P Q before (Give a) = Q before a
Allows P Q before (Ask op call next) = P before op call × ((told : Told) → Fits call told → Allows P Q (before ++ record { op = op; call = call; answer = told } ∷ []) (next told))
Allows P Q before (AskWrite op sock bytes next) = P before op (Write sock (length bytes)) × ((told : Told) → Fits (Write sock (length bytes)) told → IsFront told bytes → Allows P Q (before ++ record { op = op; call = Write sock (length bytes); answer = told } ∷ []) (next told))

-- one tree after another
pub allows_then : {A B : Type 0} (P : List Entry → OpId → Call → Type 0) (R : List Entry → A → Type 0) (Q : List Entry → B → Type 0) (before : List Entry) (asks : Asks A) (f : A → Asks B) → Allows P R before asks → ((after : List Entry) (a : A) → R after a → Allows P Q after (f a)) → Allows P Q before (bind asks f)
unfolding bind
allows_then P R Q before (Give a) f h k = k before a h
allows_then P R Q before (Ask op call next) f h k = (h.0, λ told fits. allows_then P R Q (before ++ record { op = op; call = call; answer = told } ∷ []) (next told) f (h.1 told fits) k)
allows_then P R Q before (AskWrite op sock bytes next) f h k = (h.0, λ told fits front. allows_then P R Q (before ++ record { op = op; call = Write sock (length bytes); answer = told } ∷ []) (next told) f (h.1 told fits front) k)

the_entry : (e : Entry) (op : OpId) (call : Call) → e.op ≡ op → e.call ≡ call → record { op = op; call = call; answer = e.answer } ≡ e
the_entry e op call h k = sym (ap (λ (o : OpId). let r : Entry = record { op = o; call = e.call; answer = e.answer } in r) h ∙ ap (λ (c : Call). let r : Entry = record { op = op; call = c; answer = e.answer } in r) k)

-- what is left of the tree after a prefix of its walk
pub reached : {A : Type 0} (P : List Entry → OpId → Call → Type 0) (Q : List Entry → A → Type 0) (before : List Entry) (asks : Asks A) (es : List Entry) (rest : Asks A) → Allows P Q before asks → Left asks es rest → Allows P Q (before ++ es) rest
reached P Q before asks [] rest h w = rw append-nil (subst (Allows P Q before) w h)
reached P Q before (Give a) (e ∷ es) rest h w = absurd w
reached P Q before (Ask op call next) (e ∷ es) rest h w =
    rw append_assoc at (reached P Q (before ++ e ∷ []) (next e.answer) es rest (subst (λ (x : Entry). Allows P Q (before ++ x ∷ []) (next e.answer)) (the_entry e op call w.0.0 w.0.1) (h.1 e.answer w.0.2)) w.1)
reached P Q before (AskWrite op sock bytes next) (e ∷ es) rest h w =
    rw append_assoc at (reached P Q (before ++ e ∷ []) (next e.answer) es rest (subst (λ (x : Entry). Allows P Q (before ++ x ∷ []) (next e.answer)) (the_entry e op (Write sock (length bytes)) w.0.0 w.0.1) (h.1 e.answer w.0.2 w.1)) w.2)

-- what holds at each ask and at the end holds at once
pub holds : {A : Type 0} (M : List Entry → Type 0) (Q : List Entry → A → Type 0) (more : (es : List Entry) (a : A) → Q es a → M es) (before : List Entry) (asks : Asks A) → Allows (λ es op call. M es) Q before asks → M before
holds M Q more before (Give a) h = more before a h
holds M Q more before (Ask op call next) h = h.0
holds M Q more before (AskWrite op sock bytes next) h = h.0

-- what is weaker at the end
pub allows_weaker : {A : Type 0} (P : List Entry → OpId → Call → Type 0) (Q R : List Entry → A → Type 0) (k : (es : List Entry) (a : A) → Q es a → R es a) (before : List Entry) (asks : Asks A) → Allows P Q before asks → Allows P R before asks
allows_weaker P Q R k before (Give a) h = k before a h
allows_weaker P Q R k before (Ask op call next) h = (h.0, λ told fits. allows_weaker P Q R k _ (next told) (h.1 told fits))
allows_weaker P Q R k before (AskWrite op sock bytes next) h = (h.0, λ told fits front. allows_weaker P Q R k _ (next told) (h.1 told fits front))

pub allows_if : {A : Type 0} (P : List Entry → OpId → Call → Type 0) (Q : List Entry → A → Type 0) (before : List Entry) (b : Bool) (asks others : Asks A) → (b ≡ true → Allows P Q before asks) → (b ≡ false → Allows P Q before others) → Allows P Q before (if b then asks else others)
allows_if P Q before true asks others h k = h refl
allows_if P Q before false asks others h k = k refl

-- the call at any place of a walk may come after those before it
pub allows_at : {A : Type 0} (P : List Entry → OpId → Call → Type 0) (Q : List Entry → A → Type 0) (before : List Entry) (asks rest : Asks A) (es : List Entry) (e : Entry) (more : List Entry) → Allows P Q before asks → Left asks (es ++ e ∷ more) rest → P (before ++ es) e.op e.call
allows_at P Q before (Give a) rest [] e more h w = absurd w
allows_at P Q before (Give a) rest (x ∷ es) e more h w = absurd w
allows_at P Q before (Ask op call next) rest [] e more h w = rw (append-nil, w.0.0, w.0.1) h.0
allows_at P Q before (AskWrite op sock bytes next) rest [] e more h w = rw (append-nil, w.0.0, w.0.1) h.0
allows_at P Q before (Ask op call next) rest (x ∷ es) e more h w =
    rw append_assoc at (allows_at P Q (before ++ x ∷ []) (next x.answer) rest es e more (subst (λ (y : Entry). Allows P Q (before ++ y ∷ []) (next x.answer)) (the_entry x op call w.0.0 w.0.1) (h.1 x.answer w.0.2)) w.1)
allows_at P Q before (AskWrite op sock bytes next) rest (x ∷ es) e more h w =
    rw append_assoc at (allows_at P Q (before ++ x ∷ []) (next x.answer) rest es e more (subst (λ (y : Entry). Allows P Q (before ++ y ∷ []) (next x.answer)) (the_entry x op (Write sock (length bytes)) w.0.0 w.0.1) (h.1 x.answer w.0.2 w.1)) w.2)

-- what each ask keeps holds at the end too
pub allows_keep : {A : Type 0} (P R : List Entry → OpId → Call → Type 0) (M : List Entry → Type 0) (Q : List Entry → A → Type 0)
    → ((es : List Entry) (op : OpId) (call : Call) (told : Told) → Fits call told → M es → P es op call → M (es ++ record { op = op; call = call; answer = told } ∷ []))
    → ((es : List Entry) (op : OpId) (call : Call) → P es op call → R es op call)
    → (before : List Entry) (asks : Asks A) → M before → Allows P Q before asks → Allows R (λ es a. M es × Q es a) before asks
allows_keep P R M Q more weak before (Give a) m h = (m, h)
allows_keep P R M Q more weak before (Ask op call next) m h = (weak before op call h.0, λ told fits. allows_keep P R M Q more weak _ (next told) (more before op call told fits m h.0) (h.1 told fits))
allows_keep P R M Q more weak before (AskWrite op sock bytes next) m h = (weak before op (Write sock (length bytes)) h.0, λ told fits front. allows_keep P R M Q more weak _ (next told) (more before op (Write sock (length bytes)) told fits m h.0) (h.1 told fits front))

-- == a poll, by what is known before each of its asks: C of what the last of them gave and of the items that are left
module _ (P : List Entry → OpId → Call → Type 0) (who : Who) (C : List Entry → Given → List Item → Type 0) (Q : List Entry → End × List Item → Type 0) where
  -- what is known once the front ask is answered, where these items follow
  abbrev pub FrontKeeps : List Item → List Entry → Front → Type 0
  FrontKeeps items es (Goes given) = C es given items
  FrontKeeps items es (Stays item) = C es Nothing (item ∷ items)
  FrontKeeps items es (Again item) = C es Nothing (item ∷ items)
  FrontKeeps items es (Ends c given) = Allows P Q es (last_ask who who.last c given)

  module _
      (fronts : (es : List Entry) (given : Given) (item : Item) (items : List Item) → C es given (item ∷ items) → Allows P (FrontKeeps items) es (front who item))
      (waits : (es : List Entry) (items : List Item) → C es Nothing items → Q es (Waits, items))
      (ends : (es : List Entry) (given : Given) → C es given [] → Q es (Done given, [])) where
    allows_after : (again : List Item → Asks (End × List Item)) (items : List Item) (next : Given → Asks (End × List Item)) → ((es : List Entry) (left : List Item) → C es Nothing left → Allows P Q es (again left)) → ((es : List Entry) (given : Given) → C es given items → Allows P Q es (next given))
        → (es : List Entry) (f : Front) → FrontKeeps items es f → Allows P Q es (after again who items next f)
    allows_after again items next a n es (Goes given) k = n es given k
    allows_after again items next a n es (Stays item) k = waits es (item ∷ items) k
    allows_after again items next a n es (Again item) k = a es (item ∷ items) k
    allows_after again items next a n es (Ends c given) k = k

    allows_round : (again : List Item → Asks (End × List Item)) → ((es : List Entry) (left : List Item) → C es Nothing left → Allows P Q es (again left)) → (items : List Item) (es : List Entry) (given : Given) → C es given items → Allows P Q es (round again who given items)
    allows_round again a [] es given c = ends es given c
    allows_round again a (item ∷ items) es given c =
        allows_then P (FrontKeeps items) Q es (front who item) _ (fronts es given item items c) (λ fs f k. allows_after again items _ a (λ gs g. allows_round again a items gs g) fs f k)

    pub allows_polls : (n : ℕ) (items : List Item) (es : List Entry) → C es Nothing items → Allows P Q es (polls n who items)
    unfolding polls
    allows_polls zero items es c = waits es items c
    allows_polls (suc n) items es c = allows_round (polls n who) (λ fs left. allows_polls n left fs) items es Nothing c
