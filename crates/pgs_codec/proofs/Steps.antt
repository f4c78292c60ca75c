-- Steps of reading that went well.
use Rattle.std.proofs.Common.{◌≡◌, ℕ, suc, Bool, true, false, cond, List, [], ◌∷◌, ◌++◌, Result, Ok, Err, refl}
use Rattle.pgs_codec.specs.Reading.{Refusal, ◌>>=◌}
use Rattle.pgs_codec.specs.Fields.{AreBytes}

pub ok_same : {A E : Type 0} (x y : A) → ◌≡◌ {A = Result A E} (Ok x) (Ok y) → x ≡ y
ok_same x y e = cc

pub err_ok : {A E : Type 0} (d : E) (y : A) → ◌≡◌ {A = Result A E} (Err d) (Ok y) → ⊥
err_ok d y e = cc

-- what a step that went well answered
pub record Step {A B : Type 0} (r : Result A Refusal) (f : A → Result B Refusal) (y : B) : Type 0 where
  pub value : A
  pub is : r ≡ Ok value
  pub then : f value ≡ Ok y

pub step_of : {A B : Type 0} (r : Result A Refusal) (f : A → Result B Refusal) (y : B) → (r >>= f) ≡ Ok y → Step r f y
step_of (Ok x) f y e = record { value = x; is = refl; then = e }
step_of (Err d) f y e = absurd (err_ok d y e)

-- a test that let a value through
pub passed : {A E : Type 0} (b : Bool) (d : E) (x y : A) → cond b (Ok x) (Err d) ≡ Ok y → (b ≡ true) × (x ≡ y)
passed true d x y e = (refl, ok_same x y e)
passed false d x y e = absurd (err_ok d y e)

pub not_refused : {A E : Type 0} (b : Bool) (d : E) (x y : A) → cond b (Err d) (Ok x) ≡ Ok y → (b ≡ false) × (x ≡ y)
not_refused true d x y e = absurd (err_ok d y e)
not_refused false d x y e = (refl, ok_same x y e)

pub lets_through : {A E : Type 0} (b : Bool) (d : E) (x : A) → b ≡ true → cond b (Ok x) (Err d) ≡ Ok x
lets_through true d x e = refl
lets_through false d x e = cc

-- what stands behind bytes are bytes
pub bytes_behind : (a b : List ℕ) → AreBytes (a ++ b) → AreBytes b
bytes_behind [] b h = h
bytes_behind (x ∷ a) b h = bytes_behind a b (λ i. h (suc i))
