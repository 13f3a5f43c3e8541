-- Numbers as text: decimal and hex, one after the other, and in a template.
use Rattle.std.specs.Prelude.{ℕ, zero, suc, ◌+◌, ◌*◌, ◌/◌, ◌%◌, Bool, true, false, cond, List, [], ◌∷◌, ◌++◌, get_or, drop, eqb, ltb}

-- the character of a digit: 0 to 9, then a to f
unfoldable pub digit : ℕ → ℕ
digit n = cond (ltb n 10) (48 + n) (87 + n)

-- the digits of a number, the highest first, where it has one and where it has more; `most` is not below the number
unfoldable pub digits : ℕ → Bool → ℕ → List ℕ
digits zero has_one n = digit n ∷ []
digits (suc most) true n = digit n ∷ []
digits (suc most) false n = digits most (ltb (n / 10) 10) (n / 10) ++ (digit (n % 10) ∷ [])

-- a number in decimal
unfoldable pub decimal : ℕ → List ℕ
decimal n = digits n (ltb n 10) n

-- bytes in hex, lower case
unfoldable pub hex : List ℕ → List ℕ
hex [] = []
hex (byte ∷ more) = digit (byte / 16) ∷ digit (byte % 16) ∷ hex more

-- numbers in decimal, a space before each
unfoldable pub spaced : List ℕ → List ℕ
spaced [] = []
spaced (n ∷ more) = 32 ∷ decimal n ++ spaced more

-- the numbers of 4 bytes each, the lowest byte first
unfoldable pub words : List ℕ → List ℕ
words [] = []
words (a ∷ []) = []
words (a ∷ b ∷ []) = []
words (a ∷ b ∷ c ∷ []) = []
words (a ∷ b ∷ c ∷ d ∷ more) = (a + 256 * b + 65536 * c + 16777216 * d) ∷ words more

-- a byte of a template: `#` stands for the next number, any other for itself
unfoldable pub filled_in : ℕ → List ℕ → List ℕ
filled_in byte numbers = cond (eqb byte 35) (decimal (get_or numbers 0 0)) (byte ∷ [])

-- the numbers that are left behind a byte of a template
unfoldable pub numbers_left : ℕ → List ℕ → List ℕ
numbers_left byte numbers = cond (eqb byte 35) (drop 1 numbers) numbers

-- a template with its numbers
unfoldable pub filled : List ℕ → List ℕ → List ℕ
filled [] numbers = []
filled (byte ∷ more) numbers = filled_in byte numbers ++ filled more (numbers_left byte numbers)
