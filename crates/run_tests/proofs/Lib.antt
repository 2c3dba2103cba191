mod WordValues
