-- The names of the instructions, and the rows of the table.
use Rattle.std.proofs.Common.{◌≡◌, ℕ, zero, suc, ◌+◌, ◌<◌, List, [], ◌∷◌, map, Bool, true, false, Option, None, Some, refl, ◌∙◌, ap, arith}
use Rattle.std.specs.Prelude.{◌&&◌, ◌||◌, not, ◌==◌}
use Rattle.std.specs.List.{list_all, list_any}
use Rattle.std.specs.List.{All}
use Rattle.std.proofs.lemmas.Bool.{eqb-true}
use Rattle.std.proofs.lemmas.List.Elements.{All-cons, All-nil}
use Rattle.ka10_table.specs.Rows.{row_among, row_of}
use Rattle.asm_core.specs.Cutting.{pieces}
use Rattle.asm_core.specs.Names.{names, of_group, opcode_of}
use Rattle.asm_core.specs.Rows.{has_name, is_opcode}
use Rattle.asm_core.proofs.Digits.{both}

abbrev opcodes : List ℕ
opcodes = 91 ∷ 92 ∷ 93 ∷ 94 ∷ 95 ∷ 128 ∷ 129 ∷ 130 ∷ 131 ∷ 132 ∷ 133 ∷ 134 ∷ 135 ∷ 136 ∷ 137 ∷ 138 ∷ 139 ∷ 140 ∷ 141 ∷ 142 ∷ 143 ∷ 144 ∷ 145 ∷ 146 ∷ 147 ∷ 148 ∷ 149 ∷ 150 ∷ 151 ∷ 152 ∷ 153 ∷ 154 ∷ 155 ∷ 156 ∷ 157 ∷ 158 ∷ 159 ∷ 160 ∷ 161 ∷ 162 ∷ 163 ∷ 164 ∷ 165 ∷ 166 ∷ 184 ∷ 185 ∷ 186 ∷ 187 ∷ 188 ∷ 189 ∷ 190 ∷ 191 ∷ 68 ∷ 168 ∷ 169 ∷ 170 ∷ 171 ∷ 172 ∷ 173 ∷ 174 ∷ 176 ∷ 177 ∷ 178 ∷ 179 ∷ 180 ∷ 181 ∷ 182 ∷ 183 ∷ 192 ∷ 193 ∷ 194 ∷ 195 ∷ 196 ∷ 197 ∷ 198 ∷ 199 ∷ 200 ∷ 201 ∷ 202 ∷ 203 ∷ 204 ∷ 205 ∷ 206 ∷ 207 ∷ 208 ∷ 209 ∷ 210 ∷ 211 ∷ 212 ∷ 213 ∷ 214 ∷ 215 ∷ 216 ∷ 217 ∷ 218 ∷ 219 ∷ 220 ∷ 221 ∷ 222 ∷ 223 ∷ 224 ∷ 225 ∷ 226 ∷ 227 ∷ 228 ∷ 229 ∷ 230 ∷ 231 ∷ 232 ∷ 233 ∷ 234 ∷ 235 ∷ 236 ∷ 237 ∷ 238 ∷ 239 ∷ 240 ∷ 241 ∷ 242 ∷ 243 ∷ 244 ∷ 245 ∷ 246 ∷ 247 ∷ 248 ∷ 249 ∷ 250 ∷ 251 ∷ 252 ∷ 253 ∷ 254 ∷ 255 ∷ 256 ∷ 257 ∷ 258 ∷ 259 ∷ 260 ∷ 261 ∷ 262 ∷ 263 ∷ 264 ∷ 265 ∷ 266 ∷ 267 ∷ 268 ∷ 269 ∷ 270 ∷ 271 ∷ 272 ∷ 273 ∷ 274 ∷ 275 ∷ 276 ∷ 277 ∷ 278 ∷ 279 ∷ 280 ∷ 281 ∷ 282 ∷ 283 ∷ 284 ∷ 285 ∷ 286 ∷ 287 ∷ 288 ∷ 289 ∷ 290 ∷ 291 ∷ 292 ∷ 293 ∷ 294 ∷ 295 ∷ 296 ∷ 297 ∷ 298 ∷ 299 ∷ 300 ∷ 301 ∷ 302 ∷ 303 ∷ 304 ∷ 305 ∷ 306 ∷ 307 ∷ 308 ∷ 309 ∷ 310 ∷ 311 ∷ 312 ∷ 313 ∷ 314 ∷ 315 ∷ 316 ∷ 317 ∷ 318 ∷ 319 ∷ 320 ∷ 321 ∷ 322 ∷ 323 ∷ 324 ∷ 325 ∷ 326 ∷ 327 ∷ 328 ∷ 329 ∷ 330 ∷ 331 ∷ 332 ∷ 333 ∷ 334 ∷ 335 ∷ 336 ∷ 337 ∷ 338 ∷ 339 ∷ 340 ∷ 341 ∷ 342 ∷ 343 ∷ 344 ∷ 345 ∷ 346 ∷ 347 ∷ 348 ∷ 349 ∷ 350 ∷ 351 ∷ 352 ∷ 353 ∷ 354 ∷ 355 ∷ 356 ∷ 357 ∷ 358 ∷ 359 ∷ 360 ∷ 361 ∷ 362 ∷ 363 ∷ 364 ∷ 365 ∷ 366 ∷ 367 ∷ 368 ∷ 369 ∷ 370 ∷ 371 ∷ 372 ∷ 373 ∷ 374 ∷ 375 ∷ 376 ∷ 377 ∷ 378 ∷ 379 ∷ 380 ∷ 381 ∷ 382 ∷ 383 ∷ 384 ∷ 386 ∷ 388 ∷ 390 ∷ 400 ∷ 402 ∷ 404 ∷ 406 ∷ 416 ∷ 418 ∷ 420 ∷ 422 ∷ 432 ∷ 434 ∷ 436 ∷ 438 ∷ 385 ∷ 387 ∷ 389 ∷ 391 ∷ 401 ∷ 403 ∷ 405 ∷ 407 ∷ 417 ∷ 419 ∷ 421 ∷ 423 ∷ 433 ∷ 435 ∷ 437 ∷ 439 ∷ 392 ∷ 394 ∷ 396 ∷ 398 ∷ 408 ∷ 410 ∷ 412 ∷ 414 ∷ 424 ∷ 426 ∷ 428 ∷ 430 ∷ 440 ∷ 442 ∷ 444 ∷ 446 ∷ 393 ∷ 395 ∷ 397 ∷ 399 ∷ 409 ∷ 411 ∷ 413 ∷ 415 ∷ 425 ∷ 427 ∷ 429 ∷ 431 ∷ 441 ∷ 443 ∷ 445 ∷ 447 ∷ []

-- computed
opcodes_are : map (λ (p : List ℕ × ℕ). p.1) names ≡ opcodes
unfolding names of_group pieces
opcodes_are = refl

same_bool : Bool → Bool → Bool
same_bool true b = b
same_bool false b = not b

same_is : (a b : Bool) → same_bool a b ≡ true → a ≡ b
unfolding same_bool
same_is true true h = refl
same_is true false h = cc h
same_is false true h = cc h
same_is false false h = refl

test : List ℕ → ℕ → Bool
test ops op = same_bool (list_any (λ n. n == op) ops) (has_name (row_of op).family)

all_from : List ℕ → ℕ → ℕ → Bool
all_from ops zero op = true
all_from ops (suc n) op = test ops op && all_from ops n (op + 1)

-- computed over all 512 opcodes
all_rows : all_from opcodes 512 0 ≡ true
unfolding all_from test same_bool row_of row_among
all_rows = refl

all_at : (ops : List ℕ) (n op i : ℕ) → i < n → all_from ops n op ≡ true → test ops (op + i) ≡ true
unfolding all_from
all_at ops zero op i h all = absurd (omega arith)
all_at ops (suc n) op zero h all = ap (test ops) (omega arith) ∙ (both (test ops op) (all_from ops n (op + 1)) all).0
all_at ops (suc n) op (suc i) h all = ap (test ops) (omega arith) ∙ all_at ops n (op + 1) i (omega arith) (both (test ops op) (all_from ops n (op + 1)) all).1

any_map : (ps : List (List ℕ × ℕ)) (op : ℕ) → list_any (λ p. p.1 == op) ps ≡ list_any (λ n. n == op) (map (λ (p : List ℕ × ℕ). p.1) ps)
any_map [] op = refl
any_map (p ∷ ps) op = ap (λ b. (p.1 == op) || b) (any_map ps op)

-- an opcode has a name exactly where its row is one that can be named
pub named_rows : (op : ℕ) → op < 512 → list_any (λ p. p.1 == op) names ≡ has_name (row_of op).family
unfolding test
named_rows op h =
    any_map names op
    ∙ (ap (list_any (λ n. n == op)) opcodes_are ∙ same_is (list_any (λ n. n == op) opcodes) (has_name (row_of op).family) (let here : op ≡ 0 + op = omega arith in ap (test opcodes) here ∙ all_at opcodes 512 0 op h all_rows))

-- computed over all names
names_mean : list_all (λ p. is_opcode (opcode_of p.0) p.1) names ≡ true
unfolding names of_group pieces opcode_of
names_mean = refl

opcode_is : (o : Option ℕ) (op : ℕ) → is_opcode o op ≡ true → o ≡ Some op
opcode_is None op h = cc h
opcode_is (Some n) op h = ap Some (eqb-true n op h)

all_mean : (ps : List (List ℕ × ℕ)) → list_all (λ p. is_opcode (opcode_of p.0) p.1) ps ≡ true → All (λ p. opcode_of p.0 ≡ Some p.1) ps
all_mean [] h = All-nil (λ p. opcode_of p.0 ≡ Some p.1)
all_mean (p ∷ ps) h =
    let parts = both (is_opcode (opcode_of p.0) p.1) (list_all (λ p. is_opcode (opcode_of p.0) p.1) ps) h in
    All-cons (λ p. opcode_of p.0 ≡ Some p.1) p ps (opcode_is (opcode_of p.0) p.1 parts.0) (all_mean ps parts.1)

-- each name means its opcode
pub each_means : All (λ p. opcode_of p.0 ≡ Some p.1) names
each_means = all_mean names names_mean
