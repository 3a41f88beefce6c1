-- The whole session of the section "The journal line", as bytes in and bytes out.
use Rattle.std.specs.Prelude.{ℕ, List, [], ◌∷◌}
use Prim.Native.Char.{code}
use Prim.Native.String.{String, [] as no_text, ◌∷◌ as ◌then◌}

-- the bytes of a text of ASCII; \t is a tab, \n a newline
unfoldable pub as_bytes : String → List ℕ
as_bytes no_text = []
as_bytes (c then t) = code c ∷ as_bytes t

-- the column "Call"
unfoldable pub typed : List ℕ
typed = as_bytes "1\t3\n11\n15\t0\t0\n1\t5\n15\t0\t10\n1\t4\n16\t0\n16\t0\n2\t0\n"

-- the column "Answer"
unfoldable pub written : List ℕ
written = as_bytes "ok\t1\t1\nok\t0\t1\nok\t0\t1\nok\t2\t2\nwait\t0\t1\nok\t3\t1\nok\t0\t2\nok\t0\t2\nno\t7\t2\n"
