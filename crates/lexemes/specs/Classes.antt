-- The classes of tokens, each named once. A sign's or a reserved word's class is its place among the lexemes: the theorem
-- `classes_named` of proofs/ says so of each name here.
-- Assumes nothing.
use Rattle.std.specs.Prelude.{ℕ}

-- ---- signs

-- `{`
abbrev pub open_brace : ℕ
open_brace = 0

-- `}`
abbrev pub close_brace : ℕ
close_brace = 1

-- `(`
abbrev pub open_paren : ℕ
open_paren = 2

-- `)`
abbrev pub close_paren : ℕ
close_paren = 3

-- `,`
abbrev pub comma : ℕ
comma = 4

-- `;`
abbrev pub semicolon : ℕ
semicolon = 5

abbrev pub «=» : ℕ
«=» = 6

abbrev pub «|» : ℕ
«|» = 7

abbrev pub «&» : ℕ
«&» = 8

abbrev pub «==» : ℕ
«==» = 9

abbrev pub «!=» : ℕ
«!=» = 10

abbrev pub «<» : ℕ
«<» = 11

abbrev pub «<=» : ℕ
«<=» = 12

abbrev pub «>» : ℕ
«>» = 13

abbrev pub «>=» : ℕ
«>=» = 14

abbrev pub «<<» : ℕ
«<<» = 15

abbrev pub «>>» : ℕ
«>>» = 16

abbrev pub «+» : ℕ
«+» = 17

abbrev pub «-» : ℕ
«-» = 18

abbrev pub «*» : ℕ
«*» = 19

abbrev pub «/» : ℕ
«/» = 20

abbrev pub «%» : ℕ
«%» = 21

-- ---- reserved words

abbrev pub «AND» : ℕ
«AND» = 22

abbrev pub «DEFAULT» : ℕ
«DEFAULT» = 23

abbrev pub DISPLAY_INT_DEC : ℕ
DISPLAY_INT_DEC = 24

abbrev pub DISPLAY_UINT_DEC : ℕ
DISPLAY_UINT_DEC = 25

abbrev pub DISPLAY_UINT_HEX : ℕ
DISPLAY_UINT_HEX = 26

abbrev pub «FALSE» : ℕ
«FALSE» = 27

abbrev pub «INTERACTIVE» : ℕ
«INTERACTIVE» = 28

abbrev pub «NOT» : ℕ
«NOT» = 29

abbrev pub NUMERIC_SIZE_1 : ℕ
NUMERIC_SIZE_1 = 30

abbrev pub NUMERIC_SIZE_2 : ℕ
NUMERIC_SIZE_2 = 31

abbrev pub NUMERIC_SIZE_4 : ℕ
NUMERIC_SIZE_4 = 32

abbrev pub NUMERIC_SIZE_8 : ℕ
NUMERIC_SIZE_8 = 33

abbrev pub «ONE» : ℕ
«ONE» = 34

abbrev pub «ONES» : ℕ
«ONES» = 35

abbrev pub «OR» : ℕ
«OR» = 36

abbrev pub READ_ONLY : ℕ
READ_ONLY = 37

abbrev pub RESET_REQUIRED : ℕ
RESET_REQUIRED = 38

abbrev pub STRING_TOKEN : ℕ
STRING_TOKEN = 39

abbrev pub «TRUE» : ℕ
«TRUE» = 40

abbrev pub «UNDEFINED» : ℕ
«UNDEFINED» = 41

abbrev pub «ZERO» : ℕ
«ZERO» = 42

abbrev pub «checkbox» : ℕ
«checkbox» = 43

abbrev pub «default» : ℕ
«default» = 44

abbrev pub «disableif» : ℕ
«disableif» = 45

abbrev pub «endcheckbox» : ℕ
«endcheckbox» = 46

abbrev pub «endform» : ℕ
«endform» = 47

abbrev pub «endformset» : ℕ
«endformset» = 48

abbrev pub «endif» : ℕ
«endif» = 49

abbrev pub «endnumeric» : ℕ
«endnumeric» = 50

abbrev pub «endoneof» : ℕ
«endoneof» = 51

abbrev pub «endrule» : ℕ
«endrule» = 52

abbrev pub «flags» : ℕ
«flags» = 53

abbrev pub «form» : ℕ
«form» = 54

abbrev pub «formid» : ℕ
«formid» = 55

abbrev pub «formset» : ℕ
«formset» = 56

abbrev pub «goto» : ℕ
«goto» = 57

abbrev pub «grayoutif» : ℕ
«grayoutif» = 58

abbrev pub «guid» : ℕ
«guid» = 59

abbrev pub «help» : ℕ
«help» = 60

abbrev pub «label» : ℕ
«label» = 61

abbrev pub «maximum» : ℕ
«maximum» = 62

abbrev pub «minimum» : ℕ
«minimum» = 63

abbrev pub «name» : ℕ
«name» = 64

abbrev pub «numeric» : ℕ
«numeric» = 65

abbrev pub «oneof» : ℕ
«oneof» = 66

abbrev pub «option» : ℕ
«option» = 67

abbrev pub «prompt» : ℕ
«prompt» = 68

abbrev pub «questionid» : ℕ
«questionid» = 69

abbrev pub «questionref» : ℕ
«questionref» = 70

abbrev pub «rule» : ℕ
«rule» = 71

abbrev pub «ruleref» : ℕ
«ruleref» = 72

abbrev pub «step» : ℕ
«step» = 73

abbrev pub «subtitle» : ℕ
«subtitle» = 74

abbrev pub «suppressif» : ℕ
«suppressif» = 75

abbrev pub «text» : ℕ
«text» = 76

abbrev pub «title» : ℕ
«title» = 77

abbrev pub «value» : ℕ
«value» = 78

-- ---- the other classes

-- a word that is not reserved
abbrev pub NAME : ℕ
NAME = 79

-- a number that starts with `0x`
abbrev pub HEX : ℕ
HEX = 80

-- a number of decimal digits
abbrev pub DECIMAL : ℕ
DECIMAL = 81

-- a bad token
abbrev pub BAD : ℕ
BAD = 82

-- the end of the source
abbrev pub END : ℕ
END = 83

-- ---- counts

-- how many signs there are; the first reserved word's class
abbrev pub SIGNS : ℕ
SIGNS = 22
