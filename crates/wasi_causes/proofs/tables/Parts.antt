-- A tree that is made of parts: what each part was answered, and gave.
use Rattle.wasi_causes.proofs.Words.{◌≡◌, ◌∙◌, ap, refl, subst, sym, append-nil, Ask, AskWrite, Asks, Entry, Give, Gives, Left, List, bind, ◌++◌, ◌∷◌, []}
use Rattle.wasi_world.proofs.Walks.{left_then}
use Rattle.wasi_causes.proofs.tables.Meets.{Meets, Rows, widen}

-- What the first part was answered and gave, and what followed.
pub record Parts {A B : Type 0} (first : Asks A) (f : A → Asks B) (es : List Entry) (b : B) : Type 0 where
  pub front : List Entry
  pub back : List Entry
  pub given : A
  pub cut : es ≡ front ++ back
  pub did : Left first front (Give given)
  pub next : Left (f given) back (Give b)

pub parts : {A B : Type 0} (first : Asks A) (f : A → Asks B) (es : List Entry) (b : B) → Left (bind first f) es (Give b) → Parts first f es b
unfolding bind
parts (Give a) f es b h = record { front = []; back = es; given = a; cut = refl; did = refl; next = h }
parts (Ask op c next) f [] b h = absurd (cc)
parts (AskWrite op sock bytes next) f [] b h = absurd (cc)
parts (Ask op c next) f (e ∷ es) b h = let p = parts (next e.answer) f es b h.1 in record { front = e ∷ p.front; back = p.back; given = p.given; cut = ap (λ (xs : List Entry). e ∷ xs) p.cut; did = (h.0, p.did); next = p.next }
parts (AskWrite op sock bytes next) f (e ∷ es) b h = let p = parts (next e.answer) f es b h.2 in record { front = e ∷ p.front; back = p.back; given = p.given; cut = ap (λ (xs : List Entry). e ∷ xs) p.cut; did = (h.0, h.1, p.did); next = p.next }

-- where what follows asks nothing
pub ended : {A B : Type 0} (first : Asks A) (f : A → B) (es : List Entry) (b : B) → Left (bind first (λ a. Give (f a))) es (Give b) → (a : A) × Left first es (Give a) × (f a ≡ b)
ended {A} {B} first f es b h = by_back (parts first (λ a. Give (f a)) es b h)
  where
    by_back : Parts first (λ a. Give (f a)) es b → (a : A) × Left first es (Give a) × (f a ≡ b)
    by_back p = of p.back p.next p.cut p.did
      where
        same : Give (f p.given) ≡ Give b → f p.given ≡ b
        same e = cc

        of : (back : List Entry) → Left (Give (f p.given)) back (Give b) → es ≡ p.front ++ back → Left first p.front (Give p.given) → (a : A) × Left first es (Give a) × (f a ≡ b)
        of [] next cut did = (p.given, subst (λ (xs : List Entry). Left first xs (Give p.given)) (sym (append-nil p.front) ∙ sym cut) did, same next)
        of (e ∷ back) next cut did = absurd next

-- == whatever a tree gives is walked to
walks : {A : Type 0} (whole first : Asks A) (before : List Entry) → Left whole before first → Gives (λ es a. Left whole es (Give a)) before first
walks whole (Give a) before h = h
walks whole (Ask op c next) before h = (tt, λ told fits. walks whole (next told) _ (left_then whole (Ask op c next) (next told) before (record { op = op; call = c; answer = told } ∷ []) h ((refl, refl, fits), refl)))
walks whole (AskWrite op sock bytes next) before h = (tt, λ told fits front. walks whole (next told) _ (left_then whole (AskWrite op sock bytes next) (next told) before _ h ((refl, refl, fits), front, refl)))

pub by_left : {A : Type 0} {Row : Rows A} (first : Asks A) → ((es : List Entry) (a : A) → Left first es (Give a) → Row es a) → Meets Row [] first
by_left first k = widen k (record { along = walks first first [] refl })
