-- Tables, and a statement that holds of each of their rows.
use Rattle.std.specs.Prelude.{◌≡◌, List, [], ◌∷◌, map}
use Rattle.texts.specs.Tables.{Each}

module _ {A : Type 0} where
  pub each_so : (P Q : A → Type 0) → ((a : A) → P a → Q a) → (rs : List A) → Each P rs → Each Q rs
  each_so P Q h [] e = tt
  each_so P Q h (r ∷ rs) e = (h r e.0, each_so P Q h rs e.1)

  module _ {B : Type 0} (f g : A → B) where
    -- two columns that are one agree in each row
    pub columns : (rs : List A) → map f rs ≡ map g rs → Each (λ a. f a ≡ g a) rs
    columns [] e = tt
    columns (r ∷ rs) e = (cc, columns rs cc)

-- the two sides of a row are one
module _ {A : Type 0} where
  abbrev pub Agree : A × A → Type 0
  Agree r = r.0 ≡ r.1

  pub agreed : (rs : List (A × A)) → map (λ r. r.0) rs ≡ map (λ r. r.1) rs → Each Agree rs
  agreed = columns (λ r. r.0) (λ r. r.1)
